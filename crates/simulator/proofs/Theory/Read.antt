-- The text of a simulated log is read back line by line.
use Rattle.std.specs.Prelude.{ℕ, suc, ◌+◌, ◌^◌, ◌≤◌, ◌<◌, ◌≡◌, true, length, get_or, take, drop, Ok}
use Rattle.std.proofs.Math.Path.{refl, ap}
use Rattle.std.proofs.Common.{sym, ◌∙◌, arith, length-append, drop_at, take_at, drop-drop, drop-cons}
use mathlib.Core.List.{List, [], ◌∷◌, ◌++◌, append_assoc}
use borrow.Author.Tests.{le-leb, le-ltb}
use Rattle.decimal.specs.Decimal.{read_column, write_column}
use Rattle.decimal.specs.Laws.{length-write, read-write}
use Rattle.bus_log.specs.declared.Line.{Line}
use Rattle.log_reader.specs.Text.{number_of, number_at, line_at, is_within, read_at}
use Rattle.simulator.specs.Text.{line_text}
use Rattle.simulator.proofs.Theory.Turns.{Fits}

-- A column behind P is read as the number in it.
column-at : (P R : List ℕ) (a w n : ℕ) → length P ≡ a → 0 < w → n < 10 ^ w → n < 1_000_000_000_000_000_000
    → number_of (read_column (take w (drop a (P ++ (write_column w n ++ R))))) ≡ n
unfolding number_of
column-at P R a w n size pos wide small =
    rw (drop_at P (write_column w n ++ R) a size, take_at (write_column w n) R w (length-write w n), read-write w n pos wide small)

module _ (l : Line) (f : Fits l) (text R : List ℕ) (at : ℕ) (stands : drop at text ≡ line_text l ++ R) where
  abbrev c₁ : List ℕ
  c₁ = write_column 11 l.start

  abbrev c₂ : List ℕ
  c₂ = write_column 10 l.identifier

  abbrev c₃ : List ℕ
  c₃ = write_column 3 l.kind

  abbrev c₄ : List ℕ
  c₄ = write_column 11 l.release

  abbrev c₅ : List ℕ
  c₅ = write_column 4 l.length

  -- what stands k characters on
  from : (k : ℕ) → drop (at + k) text ≡ drop k (line_text l ++ R)
  from k = sym (drop-drop k at text) ∙ ap (drop k) stands

  -- the line behind its columns so far
  split₂ : line_text l ++ R ≡ c₁ ++ (c₂ ++ (c₃ ++ (c₄ ++ (c₅ ++ (10 ∷ R)))))
  unfolding line_text
  split₂ = simp append_assoc

  split₃ : line_text l ++ R ≡ (c₁ ++ c₂) ++ (c₃ ++ (c₄ ++ (c₅ ++ (10 ∷ R))))
  unfolding line_text
  split₃ = simp append_assoc

  split₄ : line_text l ++ R ≡ ((c₁ ++ c₂) ++ c₃) ++ (c₄ ++ (c₅ ++ (10 ∷ R)))
  unfolding line_text
  split₄ = simp append_assoc

  split₅ : line_text l ++ R ≡ (((c₁ ++ c₂) ++ c₃) ++ c₄) ++ (c₅ ++ (10 ∷ R))
  unfolding line_text
  split₅ = simp append_assoc

  split₆ : line_text l ++ R ≡ ((((c₁ ++ c₂) ++ c₃) ++ c₄) ++ c₅) ++ (10 ∷ R)
  unfolding line_text
  split₆ = simp append_assoc

  pub line_read : line_at text at ≡ l
  unfolding line_at number_at
  line_read =
      rw (
        stands ∙ split₂,
        from 11 ∙ ap (drop 11) split₂,
        from 21 ∙ ap (drop 21) split₃,
        from 24 ∙ ap (drop 24) split₄,
        from 35 ∙ ap (drop 35) split₅,
        column-at [] (c₂ ++ (c₃ ++ (c₄ ++ (c₅ ++ (10 ∷ R))))) 0 11 l.start refl (omega arith) (omega (arith, f.start)) (omega (arith, f.start)),
        column-at c₁ (c₃ ++ (c₄ ++ (c₅ ++ (10 ∷ R)))) 11 10 l.identifier (length-write 11 l.start) (omega arith) (omega (arith, f.identifier)) (omega (arith, f.identifier)),
        column-at (c₁ ++ c₂) (c₄ ++ (c₅ ++ (10 ∷ R))) 21 3 l.kind (simp (length-append, length-write)) (omega arith) (omega (arith, f.kind)) (omega (arith, f.kind)),
        column-at ((c₁ ++ c₂) ++ c₃) (c₅ ++ (10 ∷ R)) 24 11 l.release (simp (length-append, length-write)) (omega arith) (omega (arith, f.release)) (omega (arith, f.release)),
        column-at (((c₁ ++ c₂) ++ c₃) ++ c₄) (10 ∷ R) 35 4 l.length (simp (length-append, length-write)) (omega arith) (omega (arith, f.length-max)) (omega (arith, f.length-max)),
      )

  feed : at + 40 ≤ length text → get_or text (at + 39) 0 ≡ 10
  feed long =
      let here : drop (at + 39) text ≡ 10 ∷ R = from 39 ∙ ap (drop 39) split₆ ∙ drop_at ((((c₁ ++ c₂) ++ c₃) ++ c₄) ++ c₅) (10 ∷ R) 39 (simp (length-append, length-write)) in
      let there : drop (at + 39) text ≡ get_or text (at + 39) 0 ∷ drop (suc (at + 39)) text = drop-cons text (at + 39) 0 (omega arith) in
      cc

  within : is_within l ≡ true
  unfolding is_within
  within =
      rw (
        le-leb l.start 9999999999 (omega (arith, f.start)),
        le-leb l.identifier 9999999999 (omega (arith, f.identifier)),
        le-leb l.kind 9999999999 (omega (arith, f.kind)),
        le-leb l.release 9999999999 (omega (arith, f.release)),
        le-leb l.length 9999999999 (omega (arith, f.length-max)),
      )

  -- The line is read.
  pub read-line : at + 40 ≤ length text → read_at text at ≡ Ok l
  unfolding read_at
  read-line long = rw (le-ltb (length text) (at + 40) long, feed long, line_read, within)
