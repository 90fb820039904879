-- `table_checks::lengths::breaks_limits` meets its contract: the invariant says that the numbers left decide.
use Prim.Native.Nat.{◌-◌}
use mathlib.Core.Path.{◌≡◌}
use Rattle.arith.specs.Lists.{exists, range}
use Rattle.table_checks.specs.Checks.{is_outside, breaks_limits}
use Rattle.table_checks.proofs.lengths.breaks_limits.Given as goal

abbrev pub invariant-loop-s : goal.invariant-loop-s
invariant-loop-s l = exists (is_outside l.lengths l.k) (range l.s (9 - l.s)) ≡ breaks_limits l.lengths l.k
