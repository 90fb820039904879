-- Those that are passed over are shown; the delay of the one that is met is found from where none is below.
use Prim.Native.Nat.{◌+◌, ◌-◌, ◌*◌, ◌<◌}
use Rattle.std.proofs.Common.{arith, refl, ap, ◌∙◌, le-mul_of_pos_right}
use Rattle.bus_model.specs.Bounds.{own_distance}
use Rattle.workload.proofs.Laws.Fine.{in-table-fine}
use Rattle.greatest_work.specs.Setting.{frames, listed}
use Rattle.response_time.specs.Load.{Later}
use Rattle.response_time.specs.Laws.Searches.{later-pass, loop-fits, loop-ends, loop-response, loop-later}
use Rattle.response_time.specs.Laws.Within.{shown-response}
use Rattle.response_time.proofs.instances.next_met.Goals as goal
use Rattle.response_time.proofs.instances.next_met.Goals.{Else-q-instances}

pub pass_shown-next-requires-clause-early : goal.pass_shown-next-requires-clause-early
pass_shown-next-requires-clause-early c = (c.requires.due.inside, loop-fits c.requires.due.windowed)

pub returns-then-q-instances-clause-meets : goal.returns-then-q-instances-clause-meets
returns-then-q-instances-clause-meets c = λ i low less. shown-response _ _ _ _ i c.args.best (c.pass_shown-next.ensures.swept.each i low (omega (arith, c.if-q-instances.true)))

-- there is one
inside : (c : Else-q-instances) → c.pass_shown-next.result.q < c.args.instances
inside c = omega (arith, c.pass_shown-next.ensures.swept.inside, c.if-q-instances.false)

-- its release is early
released : (c : Else-q-instances) → let k = c.args.setting.now.target.frame in own_distance k c.args.choices + c.pass_shown-next.result.q * k.period < 1000000
released c = loop-fits c.requires.due.windowed _ (inside c)

-- no delay of it is below
later : (c : Else-q-instances) → Later c.args.setting.now.target.faults (frames c.args.setting.now) c.args.setting.now.target.frame c.args.choices c.args.turn.from c.pass_shown-next.result.q
later c = later-pass _ _ _ _ c.pass_shown-next.ensures.swept.before c.requires.due.later

pub fixed_point-found-requires-clause-asked : goal.fixed_point-found-requires-clause-asked
fixed_point-found-requires-clause-asked c =
    let f = in-table-fine _ c.args.setting.now.posed.prepared.filled.table (listed c.args.setting.now) in
    let q = c.pass_shown-next.result.q in
    (c.requires.due.windowed.fixed, omega (arith, released (goal.at.fixed_point-found-requires-clause-asked c).Else-q-instances, le-mul_of_pos_right q f.period-low))

pub overflow_mul-released : goal.overflow_mul-released
overflow_mul-released c = omega (arith, released (goal.at.overflow_mul-released c).Else-q-instances)

pub overflow_add-released : goal.overflow_add-released
overflow_add-released c = omega (arith, released (goal.at.overflow_add-released c).Else-q-instances, c.own_distance.ensures)

pub response-requires : goal.response-requires
response-requires c =
    let e = (goal.at.response-requires c).Else-q-instances in
    let f = in-table-fine _ c.args.setting.now.posed.prepared.filled.table (listed c.args.setting.now) in
    (omega (arith, loop-ends c.requires.due.windowed (later e) (inside e) c.fixed_point-found.ensures.value c.unwrap_or-delay.ensures), f.length_high)

pub overflow_add-result : goal.overflow_add-result
overflow_add-result c =
    let e = (goal.at.overflow_add-result c).Else-q-instances in
    omega (arith, loop-ends c.requires.due.windowed (later e) (inside e) c.fixed_point-found.ensures.value c.unwrap_or-delay.ensures)

pub returns-clause-meets : goal.returns-clause-meets
returns-clause-meets c =
    let e = (goal.at.returns-clause-meets c).Else-q-instances in
    let v = c.requires.due.windowed in
    let a = c.args in
    let q = c.pass_shown-next.result.q in
    let found = c.fixed_point-found.ensures.value in
    let is = c.response.ensures ∙ ap (λ d. c.unwrap_or-delay.result + a.setting.now.target.frame.length - (d + q * a.setting.now.target.frame.period)) c.own_distance.ensures in
    record {
      met = q;
      after = refl;
      reached = c.pass_shown-next.ensures.swept.before;
      inside = inside e;
      passed = λ i low less. shown-response _ _ _ _ i a.best (c.pass_shown-next.ensures.swept.each i low less);
      is = loop-response v (later e) (inside e) found c.unwrap_or-delay.ensures is;
      later = loop-later v (later e) (inside e) found c.unwrap_or-delay.ensures;
    }
