use Rattle.workload.proofs.Laws.Fine.{in-table-fine}
use Rattle.greatest_work.specs.Setting.{frames, listed}
use Rattle.response_time.specs.Load.{Windowed}
use Rattle.response_time.specs.Laws.Searches.{window-small, loop-start, loop-met, loop-none}
use Rattle.response_time.proofs.response.max_with_window.Goals as goal
use Rattle.response_time.proofs.response.max_with_window.Goals.{After-instances_before-instances}

pub instances_before-instances-requires : goal.instances_before-instances-requires
instances_before-instances-requires c = let p = c.requires in (in-table-fine _ c.args.setting.now.posed.prepared.filled.table (listed c.args.setting.now), window-small _ _ _ _ p.choices_value)

-- the instances are those released in the window
windowed : (c : After-instances_before-instances) →
    let a = c.args in Windowed a.setting.now.target.faults (frames a.setting.now) a.setting.now.target.frame a.choices a.window c.instances_before-instances.result
windowed c =
    let p = c.requires in
    record { accepted = c.args.setting.now.posed.prepared.filled.table; listed = (listed c.args.setting.now); fixed = p.own_fixed; window = p.choices_value; number = c.instances_before-instances.ensures }

pub loop-met-init : goal.loop-met-init
loop-met-init c = (c.requires.remembered, loop-start (windowed (goal.at.loop-met-init c).After-instances_before-instances))

pub next_met-requires-clause-due : goal.next_met-requires-clause-due
next_met-requires-clause-due c =
    let turn = c.loop-met.invariant.1 in
    record { window = c.args.window; windowed = windowed (goal.at.next_met-requires-clause-due c).After-instances_before-instances; inside = turn.counts.inside; later = turn.later }

pub loop-met-preserved : goal.loop-met-preserved
loop-met-preserved c = (c.in-Some.ensures.remembered, loop-met c.loop-met.invariant.1 c.in-Some.ensures.meets c.max-most.ensures)

pub returns-clause-value : goal.returns-clause-value
returns-clause-value c = loop-none c.loop-met.invariant.1 c.in_default.ensures.meets
