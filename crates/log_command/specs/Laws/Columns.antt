-- Each start can be read back from its column: none is cut.
use Rattle.std.specs.Prelude.{ℕ, ◌+◌, ◌-◌, ◌*◌, ◌<◌, ◌≡◌, List, [], ◌∷◌, ◌++◌, get_or, take, drop, Some}
use Rattle.std.proofs.Common.{sym, ap, ◌∙◌, append_assoc, arith, drop-drop, drop_at, take_at}
use Rattle.arith.specs.Laws.Lines.{lines_at}
use Rattle.decimal.specs.Decimal.{read_column, write_column}
use Rattle.decimal.specs.Numbered.{numbered_line, numbered_at, numbered_lines}
use Rattle.decimal.specs.Laws.{length-write, read-write, numbered-lines}
use Rattle.log_check.specs.Returns.{files_returns}
use Rattle.log_check.specs.Laws.Small.{starts-early}
use Rattle.log_command.specs.Command.{starts_text, text_of}

-- the column of a start is what was written there
column-at : (starts : List ℕ) (i : ℕ) → i < 16 → take 11 (drop (15 * i + 3) (starts_text starts)) ≡ write_column 11 (get_or starts i 0)
unfolding starts_text numbered_at numbered_line
column-at starts i h =
    let s = get_or starts i 0 in
    let rest = numbered_lines 11 starts (16 - (i + 1)) (i + 1) in
    ap (take 11)
    (sym (drop-drop 3 (15 * i) (numbered_lines 11 starts 16 0))
    ∙ ap (drop 3) (lines_at (numbered-lines 11 starts) 16 i h ∙ append_assoc (write_column 3 (i + 1)) (write_column 11 s ++ (10 ∷ [])) rest)
    ∙ drop_at (write_column 3 (i + 1)) ((write_column 11 s ++ (10 ∷ [])) ++ rest) 3 (length-write 3 (i + 1))
    ∙ append_assoc (write_column 11 s) (10 ∷ []) rest)
    ∙ take_at (write_column 11 s) ((10 ∷ []) ++ rest) 11 (length-write 11 s)

pub start-read : (lengths table log : List ℕ) (i : ℕ) → i < 16 → let r = files_returns lengths table log in r.number ≡ 0
    → read_column (take 11 (drop (15 * i + 3) (text_of r))) ≡ Some (get_or r.starts i 0)
unfolding text_of
start-read lengths table log i h e =
    let r = files_returns lengths table log in
    let most = starts-early lengths table log i h in
    rw (e, column-at r.starts i h) (read-write 11 (get_or r.starts i 0) (omega arith) (omega arith) (omega arith))
