-- `table_checks::checks::has_second_group` meets its contract: the invariant says that the lines left decide.
use Prim.Native.Nat.{◌-◌}
use mathlib.Core.Path.{◌≡◌}
use Rattle.arith.specs.Lists.{exists, range}
use Rattle.table_checks.specs.Checks.{is_other_group, has_second_group}
use Rattle.table_checks.proofs.checks.has_second_group.Given as goal

abbrev pub invariant-loop-earlier : goal.invariant-loop-earlier
invariant-loop-earlier l = exists (is_other_group l.t l.i) (range l.earlier (l.i - l.earlier)) ≡ has_second_group l.t l.i
