-- The files of a call: lengths and a table that were read; an input in two parts, at 92 bytes, or at its end where it is shorter; an input whose table is
-- too long.
use Rattle.std.specs.Prelude.{ℕ, min, ◌+◌, ◌-◌, ◌<◌, ◌≡◌, refl, List, length, take, drop, Result, Ok, Err}
use Rattle.std.proofs.Math.Path.{sym, ap}
use Rattle.std.proofs.Common.{ap₂, ◌∙◌, arith, length-drop, drop_of_length-le, take_all}
use Rattle.std.proofs.Math.Decide.{dec_lt}
use Rattle.table_checks.specs.declared.Refusal.{Refusal}
use Rattle.table_checks.specs.Columns.{most_numbers, most_bytes}
use Rattle.table_checks.specs.Refusal.{check_returns}
use Rattle.table_checks.specs.Checks.{Loadable, first, file_size_check}
use Rattle.table_checks.specs.Returns.{first_returned}
use Rattle.table_checks.proofs.Laws.Returns.{first-returned, file-size-returned}
use Rattle.table_checks.proofs.Laws.Sizes.{file-size}
use Rattle.frame_table.specs.Text.{fields_of}
use Rattle.frame_table.specs.Table.{read_check, answer_for, area_after, answer_returns, returns_for}
use Rattle.frame_table.specs.Laws.Reading.{ReadRows, read-refused, read-rows}
use Rattle.frame_table.specs.Laws.Returns.{answer-told}
use Rattle.lengths_file.specs.Lengths.{lengths_of, lengths_file_check}
use Rattle.lengths_file.specs.Input.{input_check, input_returns, lengths_part, table_part, size_check, size_returns}
use Rattle.lengths_file.proofs.Laws.Reading.{file-returned}

-- ---- both files read

-- the lengths and the first n numbers of the area are those of files that passed
pub record ReadInput (lengths file : List ℕ) (ls : List (List ℕ)) (area : List ℕ) (n : ℕ) : Type 0 where
  pub passed : input_check lengths file ≡ Ok tt
  pub is : ls ≡ lengths_of lengths
  pub loadable : Loadable ls
  pub table : ReadRows file area n

module _ (lengths file : List ℕ) where
  -- Lengths that are turned back decide,
  pub lengths-refused : {r : Refusal} → lengths_file_check lengths ≡ Err r → input_check lengths file ≡ Err r
  unfolding input_check
  lengths-refused e = rw e

  -- and otherwise the table does.
  pub lengths-passed : lengths_file_check lengths ≡ Ok tt → input_check lengths file ≡ read_check file
  unfolding input_check
  lengths-passed e = rw e

  pub table-refused : lengths_file_check lengths ≡ Ok tt → (old : List ℕ) (answer : Result ℕ Refusal) → length old ≡ most_numbers
      → answer ≡ answer_for (read_check file) (fields_of file) old → {r : Refusal} → answer ≡ Err r → input_check lengths file ≡ Err r
  table-refused fine old answer size is {r} e = lengths-passed fine ∙ read-refused file old answer size is r e

  pub input_read : {ls : List (List ℕ)} → (lengths_file_check lengths ≡ Ok tt) × (ls ≡ lengths_of lengths) × Loadable ls
      → (old : List ℕ) (answer : Result ℕ Refusal) → length old ≡ most_numbers → answer ≡ answer_for (read_check file) (fields_of file) old
      → (area : List ℕ) (n : ℕ) → area ≡ area_after answer (fields_of file) old → answer ≡ Ok n → ReadInput lengths file ls area n
  input_read load old answer size is area n left e =
      let table = read-rows file old answer size is area n left e in
      record { passed = lengths-passed load.0 ∙ table.passed; is = load.1; loadable = load.2; table = table }

-- ---- in numbers

pub input-returned : (lengths file : List ℕ) → check_returns (input_check lengths file) ≡ input_returns lengths file
unfolding input_check input_returns
input-returned lengths file =
    first-returned (lengths_file_check lengths) (read_check file) ∙ ap (λ r. first_returned r (check_returns (read_check file))) (file-returned lengths)

-- What an operation on both files answers, and leaves in its area, is told in numbers too.
pub input-told : (lengths file new old : List ℕ) {a : Result ℕ Refusal} {l : List ℕ} → (a ≡ answer_for (input_check lengths file) new old) × (l ≡ area_after a new old)
    → (a ≡ answer_for (input_check lengths file) new old) × ((l ≡ area_after a new old) × (answer_returns a ≡ returns_for (input_returns lengths file) new old))
input-told lengths file new old both = rw (← input-returned lengths file) (answer-told (input_check lengths file) new old both)

size-returned : (start : List ℕ) (size : ℕ) → check_returns (size_check start size) ≡ size_returns start size
unfolding size_check size_returns
size-returned start size =
    first-returned (lengths_file_check (lengths_part start)) (file_size_check (size - 92))
    ∙ ap₂ first_returned (file-returned (lengths_part start)) (file-size-returned (size - 92))

pub size-told : (start : List ℕ) (size : ℕ) {c : Result (Unit {0}) Refusal} → c ≡ size_check start size → (c ≡ size_check start size) × (check_returns c ≡ size_returns start size)
size-told start size e = (e, ap check_returns e ∙ size-returned start size)

-- ---- an input in two parts

module _ (xs : List ℕ) (e : ℕ) (end : e ≡ min (length xs) 92) where
  pub first_part : take (e - 0) (drop 0 xs) ≡ lengths_part xs
  first_part =
      elim (dec_lt (length xs) 92) [
        | yes l ↦ take_all (e - 0) xs (omega arith) ∙ sym (take_all 92 xs (omega arith))
        | no l ↦ let is : e - 0 ≡ 92 = omega arith in rw is
      ]

  pub second-part : take (length xs - e) (drop e xs) ≡ table_part xs
  second-part =
      take_all (length xs - e) (drop e xs) (simp length-drop (omega arith))
      ∙ elim (dec_lt (length xs) 92) [
        | yes l ↦ drop_of_length-le xs {i = e} (omega arith) ∙ sym (drop_of_length-le xs {i = 92} (omega arith))
        | no l ↦ let is : e ≡ 92 = omega arith in rw is
      ]

-- ---- an input whose table is too long

-- A table's size alone turns it back.
too_long : (n : ℕ) (rest : Result (Unit {0}) Refusal) → most_bytes < n → first (file_size_check n) rest ≡ file_size_check n
too_long n rest more = go (file_size_check n) refl
  where
    go : (c : Result (Unit {0}) Refusal) → file_size_check n ≡ c → first c rest ≡ c
    go (Ok tt) e = let s = file-size n e in absurd (omega (arith, s.whole, s.most))
    go (Err r) e = refl

-- So the check needs no more of the input than its lengths and its size.
pub long-input : (input start : List ℕ) → lengths_part start ≡ lengths_part input → 92 + most_bytes < length input
    → input_check (lengths_part input) (table_part input) ≡ size_check start (length input)
unfolding input_check size_check read_check
long-input input start same more =
    rw (same, length-drop 92 input) (ap (first (lengths_file_check (lengths_part input))) (too_long (length input - 92) _ (omega arith)))
