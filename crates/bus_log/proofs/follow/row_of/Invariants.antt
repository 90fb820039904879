-- `bus_log::follow::row_of` meets its contract: the rows left decide.
use Prim.Native.Nat.{◌-◌}
use mathlib.Core.Path.{◌≡◌}
use Rattle.arith.specs.Least.{least}
use Rattle.bus_log.specs.Log.{is_named}
use Rattle.bus_log.proofs.follow.row_of.Given as goal

abbrev pub invariant-loop-i : goal.invariant-loop-i
invariant-loop-i l = least (is_named l.rows l.l) (l.n - l.i) l.i ≡ least (is_named l.rows l.l) l.n 0
