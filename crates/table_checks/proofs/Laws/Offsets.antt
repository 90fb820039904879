-- A table that was accepted while an offset had to be below its period is accepted: the checks as they stand, but with other limits of the
-- columns, and the law that with document 01's they accepted just what is accepted now and has each offset below its period.
use Rattle.std.specs.Prelude.{ℕ, zero, suc, ◌+◌, ◌-◌, ◌/◌, ◌≤◌, ◌<◌, ◌≡◌, refl, Bool, cond, List, ◌↔◌, ltb, eqb, length, Result, Ok, Err}
use Rattle.std.proofs.Common.{sym, ap₂, ◌∙◌, zero-add, arith}
use Rattle.std.proofs.Math.Path.{ap}
use borrow.Author.Tests.{ltb-true, le-leb, lt-ltb}
use Rattle.table_checks.specs.declared.Refusal.{Refusal}
use Rattle.arith.specs.Laws.Tests.{by-test}
use Rattle.bus_model.specs.Valid.{Early}
use Rattle.table_checks.specs.declared.Cause.TheVariants.{FileForm, Notation, Limit, Duplicate, SecondGroup}
use Rattle.table_checks.specs.Columns.{field, within, columns, period_column, offset_column, claim_column}
use Rattle.table_checks.specs.Frames.{frame_at, frames_of, unmeasured}
use Rattle.table_checks.specs.Refusal.{failed}
use Rattle.table_checks.specs.Checks.{first, first_of, lengths_check, rows_size_check, malformed, unterminated, column_check, columns_check, stands_earlier, has_second_group, line_check, lines_check, groups_check, table_check, rows_check, loaded_check, Accepted}
use Rattle.table_checks.proofs.Laws.First.{first-passed, first-each}
use Rattle.table_checks.proofs.Laws.Limits.{not-passed, column-within, between-true}
use Rattle.table_checks.proofs.Laws.Accepted.{length-frames, frame_row}

-- ---- the checks with other limits: of column j, where `before` stands in the column before v

module _ (limit : ℕ → ℕ → ℕ → Bool) where
  unfoldable pub column_check_with : List ℕ → ℕ → ℕ → Result (Unit {0}) Refusal
  column_check_with t i j =
      cond (eqb (field t i j) unterminated) (failed FileForm (i + 1))
      (cond (eqb (field t i j) malformed) (failed Notation (i + 1))
      (cond (limit j (field t i (j - 1)) (field t i j)) (Ok tt) (failed Limit (i + 1))))

  unfoldable pub columns_check_with : List ℕ → ℕ → Result (Unit {0}) Refusal
  columns_check_with t i = first_of (column_check_with t i) columns 0

  unfoldable pub line_check_with : List ℕ → ℕ → Result (Unit {0}) Refusal
  line_check_with t i =
      first (columns_check_with t i)
      (cond (stands_earlier t i) (failed Duplicate (i + 1))
      (cond (has_second_group t i) (failed SecondGroup (i + 1)) (Ok tt)))

  unfoldable pub lines_check_with : List ℕ → Result (Unit {0}) Refusal
  lines_check_with t = first_of (line_check_with t) (length t / columns) 0

  unfoldable pub table_check_with : List ℕ → Result (Unit {0}) Refusal
  table_check_with t = first (lines_check_with t) (groups_check (unmeasured t))

  unfoldable pub rows_check_with : List ℕ → Result (Unit {0}) Refusal
  rows_check_with rows = first (rows_size_check (length rows)) (table_check_with rows)

  unfoldable pub loaded_check_with : List (List ℕ) → List ℕ → Result (Unit {0}) Refusal
  loaded_check_with ls rows = first (lengths_check ls) (rows_check_with rows)

-- With the limits as they are these are the checks.
pub rows-within : (rows : List ℕ) → rows_check_with within rows ≡ rows_check rows
unfolding rows_check_with table_check_with lines_check_with line_check_with columns_check_with column_check_with rows_check table_check lines_check line_check columns_check column_check
rows-within rows = refl

-- ---- document 01's limits

-- "offset 0..period-1"
abbrev pub former_limit : ℕ → ℕ → ℕ → Bool
former_limit j before v = cond (eqb j offset_column) (ltb v before) (within j before v)

-- the checks with them turn no row back
abbrev pub FormerlyAccepted : List ℕ → Type 0
FormerlyAccepted rows = rows_check_with former_limit rows ≡ Ok tt

-- each offset is below its period
abbrev pub EarlyRows : List ℕ → Type 0
EarlyRows t = (i : ℕ) → i < length t / columns → field t i offset_column < field t i period_column

-- Then no frame begins late.
pub early-frames : (ls : List (List ℕ)) (rows : List ℕ) → EarlyRows rows → Early (frames_of ls rows)
unfolding frame_at
early-frames ls rows early i l = let a : i < length rows / columns = rw (length-frames ls rows) at l in rw (frame_row ls rows i a) (early i a)

-- ---- where each offset is below its period, the checks find the same

-- What comes after a check matters only where it passes.
after : (a b c : Result (Unit {0}) Refusal) → (a ≡ Ok tt → b ≡ c) → first a b ≡ first a c
after (Ok _) b c same = same refl
after (Err r) b c same = refl

first_of-same : (c d : ℕ → Result (Unit {0}) Refusal) (m n : ℕ) → ((i : ℕ) → n ≤ i → i < n + m → c i ≡ d i) → first_of c m n ≡ first_of d m n
unfolding first_of
first_of-same c d zero n same = refl
first_of-same c d (suc m) n same = ap₂ first (same n (omega arith) (omega arith)) (first_of-same c d m (n + 1) (λ i low high. same i (omega arith) (omega arith)))

module _ (t : List ℕ) (i : ℕ) (early : field t i offset_column < field t i period_column) where
  offset-kept : column_check t i period_column ≡ Ok tt → column_check_with former_limit t i offset_column ≡ column_check t i offset_column
  unfolding column_check_with column_check
  offset-kept passed =
      let period = between-true 1 1000000 _ (column-within t i period_column passed) in
      rw (lt-ltb _ _ early, le-leb (field t i offset_column) 1000000 (omega arith))

  columns-kept : columns_check_with former_limit t i ≡ columns_check t i
  unfolding columns_check_with columns_check first_of column_check_with column_check
  columns-kept =
      ap (λ (c : Result (Unit {0}) Refusal). first (column_check t i 0) (first (column_check t i 1) (first (column_check t i 2) (first (column_check t i 3) (first (column_check t i 4) c)))))
      (after (column_check t i period_column) _ _ (λ passed. ap (λ (c : Result (Unit {0}) Refusal). first c (first (column_check t i claim_column) (Ok tt))) (offset-kept passed)))

  line_kept : line_check_with former_limit t i ≡ line_check t i
  unfolding line_check_with line_check
  line_kept = rw columns-kept

pub table_kept : (t : List ℕ) → EarlyRows t → table_check_with former_limit t ≡ table_check t
unfolding table_check_with table_check lines_check_with lines_check
table_kept t early =
    ap (λ (c : Result (Unit {0}) Refusal). first c (groups_check (unmeasured t)))
    (first_of-same (line_check_with former_limit t) (line_check t) (length t / columns) 0 (λ i low high. line_kept t i (early i (omega arith))))

-- The same rows pass, and the others are turned back for the same cause at the same place.
pub check-kept : (rows : List ℕ) → EarlyRows rows → rows_check_with former_limit rows ≡ rows_check rows
unfolding rows_check_with rows_check
check-kept rows early = ap (first (rows_size_check (length rows))) (table_kept rows early)

pub loaded-kept : (ls : List (List ℕ)) (rows : List ℕ) → EarlyRows rows → loaded_check_with former_limit ls rows ≡ loaded_check ls rows
unfolding loaded_check_with loaded_check
loaded-kept ls rows early = ap (first (lengths_check ls)) (check-kept rows early)

-- ---- what was accepted

-- That column passed where the offset is below the period.
offset-early : (t : List ℕ) (i : ℕ) → column_check_with former_limit t i offset_column ≡ Ok tt → field t i offset_column < field t i period_column
unfolding column_check_with
offset-early t i e =
    by-test (eqb (field t i offset_column) unterminated) (λ u. not-passed {cause = FileForm} {place = i + 1} (simp u at e))
    (λ u. by-test (eqb (field t i offset_column) malformed) (λ m. not-passed {cause = Notation} {place = i + 1} (simp (u, m) at e))
    (λ m. by-test (ltb (field t i offset_column) (field t i period_column)) (λ w. ltb-true _ _ w)
    (λ w. not-passed {cause = Limit} {place = i + 1} (simp (u, m, w) at e))))

pub table-early : (t : List ℕ) → table_check_with former_limit t ≡ Ok tt → EarlyRows t
unfolding table_check_with lines_check_with line_check_with columns_check_with
table-early t e i l =
    let lines = (first-passed (first_of (line_check_with former_limit t) (length t / columns) 0) (groups_check (unmeasured t)) e).0 in
    let line : line_check_with former_limit t i ≡ Ok tt = rw zero-add at (first-each (line_check_with former_limit t) (length t / columns) 0 lines i l) in
    offset-early t i (first-each (column_check_with former_limit t i) columns 0 (first-passed _ _ line).0 offset_column (omega arith))

-- Accepted before are the tables that are accepted now and have each offset below its period.
pub formerly : (rows : List ℕ) → FormerlyAccepted rows ↔ (Accepted rows × EarlyRows rows)
unfolding rows_check_with
formerly rows = (to, λ (accepted, early). check-kept rows early ∙ accepted)
  where
    to : FormerlyAccepted rows → Accepted rows × EarlyRows rows
    to e =
        let early = table-early rows (first-passed (rows_size_check (length rows)) (table_check_with former_limit rows) e).1 in
        (sym (check-kept rows early) ∙ e, early)
