use Rattle.std.proofs.Common.{arith}
use Rattle.workload.proofs.Laws.Fine.{in-table-fine}
use Rattle.greatest_work.specs.Setting.{frames, listed}
use Rattle.response_time.specs.Load.{Windowed}
use Rattle.response_time.specs.Laws.Searches.{window-small, claim-here, claim-more, claim-end}
use Rattle.response_time.proofs.exceeding.exceeding_instance.Goals as goal
use Rattle.response_time.proofs.exceeding.exceeding_instance.Goals.{After-instances_before-instances}

pub instances_before-instances-requires : goal.instances_before-instances-requires
instances_before-instances-requires c = let p = c.requires in (in-table-fine _ c.args.setting.now.posed.prepared.filled.table (listed c.args.setting.now), window-small _ _ _ _ p.choices_value)

-- the instances are those released in the window
windowed : (c : After-instances_before-instances) →
    let a = c.args in Windowed a.setting.now.target.faults (frames a.setting.now) a.setting.now.target.frame a.choices a.window c.instances_before-instances.result
windowed c =
    let p = c.requires in
    record { accepted = c.args.setting.now.posed.prepared.filled.table; listed = (listed c.args.setting.now); fixed = p.own_fixed; window = p.choices_value; number = c.instances_before-instances.ensures }

pub next_met-requires-clause-due : goal.next_met-requires-clause-due
next_met-requires-clause-due c =
    let (remembered, above, later, inside) = c.loop-met.invariant in
    record { window = c.args.window; windowed = windowed (goal.at.next_met-requires-clause-due c).After-instances_before-instances; inside = inside; later = later }

pub loop-met-preserved : goal.loop-met-preserved
loop-met-preserved c =
    let m = c.in-Some.ensures.meets in
    (c.in-Some.ensures.remembered, claim-more c.loop-met.invariant.1 m c.if-claim-met.false, m.later, omega (arith, m.after, m.inside))

pub returns-then-claim-met-clause-value : goal.returns-then-claim-met-clause-value
returns-then-claim-met-clause-value c =
    claim-here c.loop-met.invariant.1 c.in-Some.ensures.meets (windowed (goal.at.returns-then-claim-met-clause-value c).After-instances_before-instances) c.if-claim-met.true

pub returns-clause-value : goal.returns-clause-value
returns-clause-value c = claim-end c.loop-met.invariant.1 (windowed (goal.at.returns-clause-value c).After-instances_before-instances) c.in_default.ensures.meets
