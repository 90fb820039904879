-- The loop keeps what the search finds: where x does not hold its load, nothing below that load does. The measure is what is left up to the end.
use Prim.Native.Nat.{◌-◌}
use mathlib.Core.Path.{◌≡◌}
use Rattle.arith.specs.Least.{least}
use Rattle.workload.specs.Placed.{placed_in}
use Rattle.response_time.specs.Load.{placed_holds}
use Rattle.response_time.proofs.search.climb.Given as goal

abbrev pub invariant-loop-x : goal.invariant-loop-x
invariant-loop-x l = least (placed_holds (placed_in l.placed) l.shift l.base) (l.end - l.x) l.x ≡ least (placed_holds (placed_in l.placed) l.shift l.base) (l.end - l.from) l.from

abbrev pub decreases-loop-x : goal.decreases-loop-x
decreases-loop-x l = l.end - l.x
