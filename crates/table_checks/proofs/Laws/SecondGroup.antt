-- "15 when a node stands in a second group, place the line, after 5 on that line" (document 02, request 6), and before the next line.
-- That a node of an accepted table stands in one group is `accepted-group` (Accepted).
use Rattle.std.specs.Prelude.{ℕ, zero, suc, ◌+◌, ◌/◌, ◌<◌, ◌≡◌, true, false, List, length, Result, Ok, Err}
use Rattle.std.proofs.Common.{add-zero, zero-add, arith}
use Rattle.table_checks.specs.declared.Cause.TheVariants.{Duplicate, SecondGroup}
use Rattle.table_checks.specs.declared.Refusal.{Refusal}
use Rattle.table_checks.specs.Columns.{columns}
use Rattle.table_checks.specs.Refusal.{failed}
use Rattle.table_checks.specs.Checks.{first_of, columns_check, stands_earlier, has_second_group, line_check, lines_check}

module _ (t : List ℕ) (i : ℕ) (fine : columns_check t i ≡ Ok tt) where
  -- A line whose node stands in a second group is turned back with 15 at that line,
  pub second_group : stands_earlier t i ≡ false → has_second_group t i ≡ true → line_check t i ≡ failed SecondGroup (i + 1)
  unfolding line_check
  second_group new second = rw (fine, new, second)

  -- but with 5 where that is its fault too,
  pub duplicate-first : stands_earlier t i ≡ true → line_check t i ≡ failed Duplicate (i + 1)
  unfolding line_check
  duplicate-first old = rw (fine, old)

-- The first check that fails tells.
first-at : (check : ℕ → Result (Unit {0}) Refusal) (m n k : ℕ) {r : Refusal} → k < m → ((d : ℕ) → d < k → check (n + d) ≡ Ok tt) → check (n + k) ≡ Err r → first_of check m n ≡ Err r
unfolding first_of
first-at check zero n k l before fails = absurd (omega arith)
first-at check (suc m) n zero l before fails = rw (rw (add-zero n) at fails)
first-at check (suc m) n (suc k) l before fails =
    let here : check n ≡ Ok tt = rw (add-zero n) at (before 0 (omega arith)) in
    let later : (d : ℕ) → n + 1 + d ≡ n + suc d = λ d. omega arith in
    rw here (first-at check m (n + 1) k (omega arith) (λ d h. rw (later d) (before (suc d) (omega arith))) (rw (later k) fails))

-- and no line after one that fails is looked at.
pub first-line : (t : List ℕ) (i : ℕ) {r : Refusal} → i < length t / columns → ((m : ℕ) → m < i → line_check t m ≡ Ok tt) → line_check t i ≡ Err r → lines_check t ≡ Err r
unfolding lines_check
first-line t i l before fails = first-at (line_check t) (length t / columns) 0 i l (λ d h. rw (zero-add d) (before d h)) (rw (zero-add i) fails)
