-- The places of columns and lines in the file of lengths, and how long each is.
use Prim.Native.Nat.{ℕ, ◌+◌, ◌-◌, ◌*◌, ◌<◌}
use Rattle.std.specs.Prelude.{◌≡◌, refl, take, drop}
use Rattle.std.proofs.Math.Path.{sym, ap}
use Rattle.std.proofs.Common.{◌∙◌, add-one, arith, drop-drop, get_or-drop}
use mathlib.Core.List.{List, [], ◌∷◌, ◌++◌, append_assoc, flat_map}
use Rattle.std.proofs.Math.ListN.{length, get_or, length-append}
use Rattle.std.proofs.Math.Seq.{drop-append-le, take_at}
use Rattle.std.proofs.lemmas.List.{get_or_at}
use Rattle.arith.specs.Lists.{range}
use Rattle.arith.specs.Laws.Lines.{Lines, length-lines, lines_at}
use Rattle.decimal.specs.Laws.{length-write}
use Rattle.lengths_file.specs.Lengths.{column_at, column_text, line_text, text_of}

-- n texts one after the other, from text i on
abbrev pub joined : (ℕ → List ℕ) → ℕ → ℕ → List ℕ
joined text n i = flat_map text (range i n)

-- Texts of one width are lines.
joined-lines : (w : ℕ) (text : ℕ → List ℕ) → ((i : ℕ) → length (text i) ≡ w) → Lines w text (joined text)
unfolding flat_map range
joined-lines w text wide = record { wide = wide; none = λ i. refl; more = λ n i. rw (add-one i) }

module _ (ls : List (List ℕ)) where
  -- The columns of a line, of 5 characters each.
  pub columns : (k : ℕ) → Lines 5 (column_text ls k) (joined (column_text ls k))
  unfolding column_text
  columns k = joined-lines 5 (column_text ls k) (λ s. length-write 5 _)

  pub length-line : (k : ℕ) → length (line_text ls k) ≡ 46
  unfolding line_text
  length-line k = length-append (joined (column_text ls k) 9 0) (10 ∷ []) ∙ omega (arith, length-lines (columns k) 9 0)

  -- The lines, of 46 characters each.
  pub lines : Lines 46 (line_text ls) (joined (line_text ls))
  lines = joined-lines 46 (line_text ls) length-line

  pub length-text : length (text_of ls) ≡ 92
  unfolding text_of
  length-text = length-lines lines 2 0

  module _ (k : ℕ) (rest : List ℕ) where
    -- A column holds its number.
    pub line-column : (s : ℕ) → s < 9 → take 5 (drop (5 * s) (line_text ls k ++ rest)) ≡ column_text ls k s
    unfolding line_text
    line-column s l =
        let cells : List ℕ = joined (column_text ls k) 9 0 in
        let room : 5 * s < length cells = omega (arith, length-lines (columns k) 9 0) in
        rw (append_assoc cells (10 ∷ []) rest, drop-append-le (5 * s) cells (10 ∷ rest) (omega arith), lines_at (columns k) 9 s l)
        (ap (take 5) (append_assoc (column_text ls k s) (joined (column_text ls k) (9 - (s + 1)) (s + 1)) (10 ∷ rest))
        ∙ take_at (column_text ls k s) _ 5 ((columns k).wide s))

    -- The last character is a line feed.
    pub line-feed : get_or (line_text ls k ++ rest) 45 0 ≡ 10
    unfolding line_text
    line-feed =
        let cells : List ℕ = joined (column_text ls k) 9 0 in
        rw (append_assoc cells (10 ∷ []) rest) (get_or_at cells 10 rest 0 45 (length-lines (columns k) 9 0))

  module _ (k : ℕ) (h : k < 2) where
    pub text-column : (s : ℕ) → s < 9 → column_at (text_of ls) k s ≡ column_text ls k s
    unfolding column_at text_of
    text-column s l =
        ap (take 5) (sym (drop-drop (5 * s) (46 * k) (text_of ls)) ∙ ap (drop (5 * s)) (lines_at lines 2 k h))
        ∙ line-column k (joined (line_text ls) (2 - (k + 1)) (k + 1)) s l

    pub text-feed : get_or (text_of ls) (46 * k + 45) 0 ≡ 10
    unfolding text_of
    text-feed =
        sym (get_or-drop (46 * k) (text_of ls) 45 0) ∙ ap (λ (x : List ℕ). get_or x 45 0) (lines_at lines 2 k h)
        ∙ line-feed k (joined (line_text ls) (2 - (k + 1)) (k + 1))
