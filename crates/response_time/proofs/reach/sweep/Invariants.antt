-- The sweep has passed the instances before the next one, and shown it of those from `last` on. The measure is how many are left.
use Prim.Native.Nat.{◌-◌, ◌≤◌}
use Rattle.greatest_work.specs.Setting.{frames, Remembers}
use Rattle.response_time.specs.Load.{Swept}
use Rattle.response_time.proofs.reach.sweep.Given as goal

abbrev pub invariant-loop-next : goal.invariant-loop-next
invariant-loop-next l = Swept l.setting.target.faults (frames l.setting) l.setting.target.frame l.choices l.best l.reach l.last l.next.q × Remembers l.setting l.memory × (l.missed ≤ l.next.q)

abbrev pub decreases-loop-next : goal.decreases-loop-next
decreases-loop-next l = l.reach - l.next.q
