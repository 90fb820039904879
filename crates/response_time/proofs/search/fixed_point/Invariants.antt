-- The loop keeps what the search finds: in the scenario with guesses nothing holds its load before it does in the one at hand, and where the number found there does not hold the load, nothing below that load does. The measure is what is left up to the end.
use Prim.Native.Nat.{◌-◌}
use mathlib.Core.Path.{◌≡◌}
use lib.ListN.{length}
use Rattle.arith.specs.Least.{least}
use Rattle.greatest_work.specs.Setting.{frames, Remembers}
use Rattle.response_time.specs.Load.{holds}
use Rattle.response_time.proofs.search.fixed_point.Given as goal

abbrev pub invariant-loop-x : goal.invariant-loop-x
invariant-loop-x l =
    (least (holds l.setting.target.faults (frames l.setting) l.setting.target.frame l.choices l.search) (l.end - l.x) l.x ≡ least (holds l.setting.target.faults (frames l.setting) l.setting.target.frame l.choices l.search) (l.end - l.from) l.from)
    × Remembers l.setting l.memory
    × (length l.memory ≡ length l.initial.memory)

abbrev pub decreases-loop-x : goal.decreases-loop-x
decreases-loop-x l = l.end - l.x
