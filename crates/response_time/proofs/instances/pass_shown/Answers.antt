use Rattle.std.proofs.Common.{arith, ◌∙◌, le-mul_of_pos_right}
use Rattle.workload.proofs.Laws.Fine.{in-table-fine}
use Rattle.greatest_work.specs.Setting.{listed}
use Rattle.response_time.specs.Laws.Searches.{placed-any}
use Rattle.response_time.specs.Laws.Within.{swept_none, swept-shown}
use Rattle.response_time.proofs.instances.pass_shown.Goals as goal

pub loop-next-init : goal.loop-next-init
loop-next-init c = (swept_none c.requires.early.0, c.requires.remembered)

pub shown_within-requires : goal.shown_within-requires
shown_within-requires c =
    let p = c.requires in
    let q = c.loop-next.next.q in
    let early = p.early.1 q c.loop-next-test.true in
    let some = (in-table-fine _ c.args.setting.now.posed.prepared.filled.table (listed c.args.setting.now)).period-low in
    record { remembered = c.loop-next.invariant.1; asked = (p.own_fixed, omega (arith, early, le-mul_of_pos_right q some)); period_bound = early; placed_value = p.placed_value ∙ placed-any _ c.args.setting.now.target _ q }

pub returns-in_default : goal.returns-in_default
returns-in_default c = record { swept = c.loop-next.invariant.0; remembered = c.shown_within.ensures.remembered }

pub loop-next-preserved : goal.loop-next-preserved
loop-next-preserved c = let t = c.in-Some.ensures in (rw c.min.ensures (swept-shown c.loop-next.invariant.0 t.some.0 t.by_index), t.remembered)

pub returns : goal.returns
returns c = record { swept = c.loop-next.invariant.0; remembered = c.loop-next.invariant.1 }
