-- An output area: what is answered, and what it then holds.
use Rattle.std.specs.Prelude.{ℕ, ◌≤◌, ◌<◌, ◌≡◌, refl, List, ◌++◌, length, drop, Result, Ok, Err}
use Rattle.std.proofs.Common.{lt-ltb, le-ltb}
use Rattle.table_checks.specs.declared.Cause.TheVariants.{OutputArea}
use Rattle.table_checks.specs.declared.Refusal.{Refusal}
use Rattle.frame_table.specs.Table.{answer_for, area_after}

module _ (check : Result (Unit {0}) Refusal) (new old : List ℕ) where
  -- It is left where the check failed.
  pub area-refused : (r : Refusal) (a : Result ℕ Refusal) → check ≡ Err r → a ≡ Err r → (a ≡ answer_for check new old) × (old ≡ area_after a new old)
  area-refused r a e is = rw (is, e) (refl, refl)

  -- It is left where it is too short.
  pub area-short : (n : ℕ) (a : Result ℕ Refusal) → length new ≡ n → check ≡ Ok tt → length old < n → a ≡ Err (record { cause = OutputArea; place = 0 })
      → (a ≡ answer_for check new old) × (old ≡ area_after a new old)
  area-short n a size e l is = rw (is, e, size, lt-ltb _ _ l) (refl, refl)

  -- It is written where there is room.
  pub area-written : (n : ℕ) (l : List ℕ) → length new ≡ n → check ≡ Ok tt → n ≤ length old → l ≡ new ++ drop n old
      → (Ok n ≡ answer_for check new old) × (l ≡ area_after (Ok n) new old)
  area-written n l size e h is = rw (e, size, le-ltb _ _ h) (refl, is)
