-- Those that are shown are passed; the measure is how many are left.
use Prim.Native.Nat.{◌-◌}
use Rattle.greatest_work.specs.Setting.{frames, Remembers}
use Rattle.response_time.specs.Load.{Swept}
use Rattle.response_time.proofs.instances.pass_shown.Given as goal

abbrev pub invariant-loop-next : goal.invariant-loop-next
invariant-loop-next l = Swept l.setting.target.faults (frames l.setting) l.setting.target.frame l.choices l.best l.end l.fn.from.q l.next.q × Remembers l.setting l.memory

abbrev pub decreases-loop-next : goal.decreases-loop-next
decreases-loop-next l = l.end - l.next.q
