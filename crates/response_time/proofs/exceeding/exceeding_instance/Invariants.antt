-- The loop goes through the instances released in the window, as that for the greatest response does, until one exceeds the claim; none before
-- it does.
use Prim.Native.Nat.{◌-◌, ◌≤◌}
use Rattle.greatest_work.specs.Setting.{frames, Remembers}
use Rattle.response_time.specs.Load.{Later, NoneAbove}
use Rattle.response_time.proofs.exceeding.exceeding_instance.Given as goal

abbrev pub invariant-loop-met : goal.invariant-loop-met
invariant-loop-met l =
    Remembers l.setting l.memory
    × NoneAbove l.setting.target.faults (frames l.setting) l.setting.target.frame l.choices l.claim 0 l.turn.next.q
    × Later l.setting.target.faults (frames l.setting) l.setting.target.frame l.choices l.turn.from l.turn.next.q
    × (l.turn.next.q ≤ l.instances)

abbrev pub decreases-loop-met : goal.decreases-loop-met
decreases-loop-met l = l.instances - l.turn.next.q
