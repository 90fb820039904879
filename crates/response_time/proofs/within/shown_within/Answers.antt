-- The instances of which the start shows it.
use Prim.Native.Nat.{◌+◌, ◌-◌, ◌*◌}
use Rattle.std.proofs.Common.{◌≡◌, arith, sym, ap, subst, ◌∙◌}
use Rattle.workload.proofs.Laws.Fine.{in-table-fine}
use Rattle.greatest_work.specs.Setting.{frames, listed}
use Rattle.response_time.specs.Load.{latest_start, ShownWithin}
use Rattle.response_time.specs.Laws.Within.{latest-start-fits, shows-within}
use Rattle.response_time.proofs.within.shown_within.Goals as goal

pub own_distance-requires : goal.own_distance-requires
own_distance-requires c = in-table-fine _ c.args.setting.now.posed.prepared.filled.table (listed c.args.setting.now)

pub shown_by-requires-clause-latest_bound : goal.shown_by-requires-clause-latest_bound
shown_by-requires-clause-latest_bound c = let latest = latest-start-fits _ _ _ (sym c.latest_start.ensures ∙ c.in_ok-latest.was) in omega (arith, latest.1)

pub returns-clause-by_index : goal.returns-clause-by_index
returns-clause-by_index c = λ i low less.
    let a = c.args in
    let k = a.setting.now.target.frame in
    let at = ap (λ d. latest_start a.best k.length (d + a.next.q * k.period)) (sym c.own_distance.ensures) ∙ sym c.latest_start.ensures ∙ c.in_ok-latest.was in
    let is : a.next.q + (i - a.next.q) ≡ i = omega arith in
    subst (ShownWithin a.setting.now.target.faults (frames a.setting.now) k a.choices a.best) is (shows-within _ _ _ _ a.next.q a.best at c.in_ok-shown.ensures.shows (i - a.next.q) (omega arith))
