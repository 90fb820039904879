-- What is known of a size that passed its check.
use Rattle.std.specs.Prelude.{ℕ, ◌/◌, ◌%◌, ◌≤◌, ◌<◌, ◌≡◌, List, ltb, eqb, length, Ok}
use Rattle.std.proofs.Common.{arith, eqb-true, ltb-false, eq-eqb, ne_eqb, le-ltb}
use Rattle.std.proofs.lemmas.Bool.{eqb-false}
use Rattle.arith.specs.Laws.Tests.{by-test}
use Rattle.table_checks.specs.declared.Cause.TheVariants.{FileForm, TooManyLines, RowsLength}
use Rattle.table_checks.specs.Columns.{columns, most_lines, most_numbers, line_length}
use Rattle.table_checks.specs.Checks.{file_size_check, rows_size_check, table_check, rows_check}
use Rattle.table_checks.proofs.Laws.Limits.{not-passed}

-- ---- a file's

pub record FileSize (size : ℕ) : Type 0 where
  pub some : 0 < size
  pub whole : size % line_length ≡ 0
  pub most : size / line_length ≤ most_lines

pub file-size : (size : ℕ) → file_size_check size ≡ Ok tt → FileSize size
unfolding file_size_check
file-size size e =
    by-test (eqb size 0) (λ a. not-passed {cause = FileForm} {place = 0} (simp a at e))
    (λ a. by-test (eqb (size % line_length) 0)
    (λ b. by-test (ltb most_lines (size / line_length)) (λ c. not-passed {cause = TooManyLines} {place = 0} (simp (a, b, c) at e))
    (λ c. let n = eqb-false size 0 a in record { some = omega arith; whole = eqb-true _ _ b; most = ltb-false _ _ c }))
    (λ b. not-passed {cause = FileForm} {place = 0} (simp (a, b) at e)))

pub file-sized : (size : ℕ) → FileSize size → file_size_check size ≡ Ok tt
unfolding file_size_check
file-sized size s =
    let n : size ≡ 0 → ⊥ = omega (arith, s.some) in
    simp (ne_eqb _ _ n, eq-eqb _ _ s.whole, le-ltb _ _ s.most)

-- ---- that of rows in memory

pub record RowsSize (size : ℕ) : Type 0 where
  pub some : 0 < size
  pub whole : size % columns ≡ 0
  pub most : size ≤ most_numbers

pub rows-size : (size : ℕ) → rows_size_check size ≡ Ok tt → RowsSize size
unfolding rows_size_check
rows-size size e =
    by-test (eqb size 0) (λ a. not-passed {cause = RowsLength} {place = 0} (simp a at e))
    (λ a. by-test (eqb (size % columns) 0)
    (λ b. by-test (ltb most_numbers size) (λ c. not-passed {cause = RowsLength} {place = 0} (simp (a, b, c) at e))
    (λ c. let n = eqb-false size 0 a in record { some = omega arith; whole = eqb-true _ _ b; most = ltb-false _ _ c }))
    (λ b. not-passed {cause = RowsLength} {place = 0} (simp (a, b) at e)))

pub rows-sized : (size : ℕ) → RowsSize size → rows_size_check size ≡ Ok tt
unfolding rows_size_check
rows-sized size s =
    let n : size ≡ 0 → ⊥ = omega (arith, s.some) in
    simp (ne_eqb _ _ n, eq-eqb _ _ s.whole, le-ltb _ _ s.most)

-- Where the size is right, the table's own check is left.
pub sized-check : (t : List ℕ) → RowsSize (length t) → rows_check t ≡ table_check t
unfolding rows_check
sized-check t s = rw (rows-sized (length t) s)
