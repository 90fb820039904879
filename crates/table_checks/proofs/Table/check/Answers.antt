-- Lengths and rows that passed are an accepted table.
use mathlib.Core.Path.{sym}
use Rattle.std.specs.Prelude.{◌≡◌, Result, Ok, Err}
use Rattle.std.proofs.Common.{rules}
use Rattle.table_checks.specs.declared.Refusal.{Refusal}
use Rattle.table_checks.specs.Checks.{first, loaded_check, Loadable, Accepted}
use Rattle.table_checks.proofs.Table.check.Goals as goal

both : (a b : Result (Unit {0}) Refusal) → first a b ≡ Ok tt → (a ≡ Ok tt) × (b ≡ Ok tt)
both (Ok u) b e = (search rules, e)
both (Err r) b e = search rules

pub invariant_of-result : goal.invariant_of-result
unfolding loaded_check
invariant_of-result c = record { accepted = both _ _ (sym c.in_ok-check_loaded.ensures.value) }
