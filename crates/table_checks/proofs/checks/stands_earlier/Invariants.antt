-- `table_checks::checks::stands_earlier` meets its contract: the invariant says that the lines left decide.
use Prim.Native.Nat.{◌-◌}
use mathlib.Core.Path.{◌≡◌}
use Rattle.arith.specs.Lists.{exists, range}
use Rattle.table_checks.specs.Checks.{is_same_frame, stands_earlier}
use Rattle.table_checks.proofs.checks.stands_earlier.Given as goal

abbrev pub invariant-loop-m : goal.invariant-loop-m
invariant-loop-m l = exists (is_same_frame l.t l.i) (range l.m (l.i - l.m)) ≡ stands_earlier l.t l.i
