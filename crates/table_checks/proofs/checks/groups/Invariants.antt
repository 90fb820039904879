-- `table_checks::checks::groups` meets its contract: the invariant says that the groups left decide.
use Prim.Native.Nat.{◌-◌}
use mathlib.Core.Path.{◌≡◌}
use Rattle.table_checks.specs.Frames.{unmeasured}
use Rattle.table_checks.specs.Checks.{first_of, group_check, groups_check}
use Rattle.table_checks.proofs.checks.groups.Given as goal

abbrev pub invariant-loop-j : goal.invariant-loop-j
invariant-loop-j l = first_of (group_check (unmeasured l.t)) (17 - l.j) l.j ≡ groups_check (unmeasured l.t)
