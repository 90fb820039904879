-- The loop goes through the instances released in the window; each starts in the window, and no delay of the next one is below the end of this one,
-- so its search starts there. Those that are shown to have no greater response are passed over. The measure is how many instances are left.
use Prim.Native.Nat.{◌-◌}
use Rattle.greatest_work.specs.Setting.{frames, Remembers}
use Rattle.response_time.specs.Laws.Searches.{InstanceLoop}
use Rattle.response_time.proofs.response.max_with_window.Given as goal

abbrev pub invariant-loop-met : goal.invariant-loop-met
invariant-loop-met l = Remembers l.setting l.memory × InstanceLoop l.setting.target.faults (frames l.setting) l.setting.target.frame l.choices l.window l.instances l.best l.most l.turn.from l.turn.next.q

abbrev pub decreases-loop-met : goal.decreases-loop-met
decreases-loop-met l = l.instances - l.turn.next.q
