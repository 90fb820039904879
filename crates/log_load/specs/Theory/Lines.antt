-- The lines of a text that is in the notation.
use Rattle.std.specs.Prelude.{ℕ, zero, suc, ◌+◌, ◌*◌, ◌≤◌, ◌<◌, ◌≡◌, refl, List, [], ◌∷◌, length}
use Rattle.std.proofs.Common.{arith}
use Rattle.bus_log.specs.declared.Line.{Line}
use Rattle.bus_log.specs.Log.{end_from, last_end}
use Rattle.log_reader.specs.Text.{Stands, line_at}
use Rattle.log_reader.specs.Laws.{stands_read, read-line}
use Rattle.log_check.specs.Check.{lines_of}
use Rattle.log_load.specs.Steps.{Readable, no_line, nth}

-- The last end is that of the last line, and 0 where there is none.
last-end : (e m : ℕ) (log : List Line) → length log ≡ suc m → (nth log m).start + (nth log m).length ≡ end_from e log
unfolding end_from
last-end e m [] h = absurd (omega arith)
last-end e zero (l ∷ []) h = refl
last-end e zero (l ∷ (k ∷ ks)) h = absurd (omega arith)
last-end e (suc m) (l ∷ ls) h = last-end (l.start + l.length) m ls (omega arith)

pub last-is : (m : ℕ) (log : List Line) → length log ≡ suc m → (nth log m).start + (nth log m).length ≡ last_end log
last-is m log h = last-end 0 m log h

pub last_none : (log : List Line) → length log ≡ 0 → 0 ≡ last_end log
unfolding end_from
last_none [] h = refl
last_none (l ∷ ls) h = absurd (omega arith)

module _ (text : List ℕ) (readable : Readable text) where
  pub few-lines : length (lines_of text) ≤ 1600
  few-lines = omega (arith, readable.count, readable.sized.1)

  pub line-stands : (i : ℕ) → i < length (lines_of text) → Stands text (40 * i) (nth (lines_of text) i)
  line-stands i h = readable.stands i no_line h

  pub line-is : (i : ℕ) → i < length (lines_of text) → nth (lines_of text) i ≡ line_at text (40 * i)
  line-is i h = (read-line text (40 * i) _ (stands_read text (40 * i) _ (line-stands i h))).0
