-- That of a window is the blocking and the work of the frames ahead; that of a start is the same without k's own demand, which is a part of that work.
use Prim.Native.Nat.{ℕ, ◌+◌, ◌-◌, ◌*◌, ◌≤◌}
use mathlib.Core.Path.{◌≡◌, ap, ap₂, subst, ◌∙◌}
use native.Mathlib.Omega.{arith}
use Rattle.bus_model.specs.Bounds.{blocking}
use Rattle.workload.specs.declared.Search.TheVariants.{Instance}
use Rattle.workload.proofs.Laws.Fine.{in-table-fine}
use Rattle.greatest_work.specs.Setting.{frames, listed}
use Rattle.response_time.specs.Load.{Asked, frame_load, base_of}
use Rattle.response_time.specs.Laws.Searches.{start-load, base-small}
use Rattle.response_time.proofs.search.frame_load.Goals as goal
use Rattle.response_time.proofs.search.frame_load.Goals.{After-base_of-base, After-own_demand}

pub whole_work-requires : goal.whole_work-requires
whole_work-requires c = record { remembered = c.requires.remembered; n_bound = omega (arith, c.requires.x_bound) }

-- what is waited for besides is small,
small : (c : After-base_of-base) → c.base_of-base.result ≤ 1000000000
small c = omega (arith, c.base_of-base.ensures, base-small c.args.setting.now.posed.prepared.filled.table (listed c.args.setting.now) c.args.choices c.args.search c.requires.asked c.args.setting.now.posed.blocked)

-- and it is told by the blocking
based : (c : After-base_of-base) → let a = c.args in c.base_of-base.result ≡ base_of (blocking (frames a.setting.now) a.setting.now.target.frame) a.setting.now.target.frame a.search
based c = c.base_of-base.ensures ∙ ap (λ (b : ℕ). base_of b c.args.setting.now.target.frame c.args.search) c.args.setting.now.posed.blocked

pub overflow_add-result : goal.overflow_add-result
overflow_add-result c = omega (arith, small (goal.at.overflow_add-result c).After-base_of-base, c.whole_work.ensures.small)

pub overflow_add-x : goal.overflow_add-x
overflow_add-x c = omega (arith, c.requires.x_bound)

pub whole_work-all-requires : goal.whole_work-all-requires
whole_work-all-requires c = record { remembered = c.requires.remembered; n_bound = omega (arith, c.requires.x_bound) }

pub overflow_add-x-in-Instance : goal.overflow_add-x-in-Instance
overflow_add-x-in-Instance c = omega (arith, c.requires.x_bound)

pub own_demand-requires : goal.own_demand-requires
own_demand-requires c = record { fine = in-table-fine _ c.args.setting.now.posed.prepared.filled.table (listed c.args.setting.now); n_bound = omega (arith, c.requires.x_bound) }

-- k's demand is a part of the work, and what is left gives the load
loads : (c : After-own_demand) →
    let a = c.args in
    let fs = frames a.setting.now in
    (c.own_demand.result ≤ c.whole_work-all.result)
    × (blocking fs a.setting.now.target.frame + c.in-Instance.field-0 * a.setting.now.target.frame.length + (c.whole_work-all.result - c.own_demand.result) ≡ frame_load fs a.setting.now.target.frame a.choices (Instance c.in-Instance.field-0) a.x)
loads c =
    let (own, few) = subst (Asked c.args.setting.now.target.frame c.args.choices) c.in-Instance.is c.requires.asked in
    start-load c.args.setting.now.posed.prepared.filled.table.valid (listed c.args.setting.now) c.args.choices own.1 c.in-Instance.field-0 c.args.x c.whole_work-all.ensures.value (c.own_demand.ensures own.0 own.1)

pub overflow_sub-result : goal.overflow_sub-result
overflow_sub-result c = (loads (c)).0

pub overflow_add-result-in-Instance : goal.overflow_add-result-in-Instance
overflow_add-result-in-Instance c = omega (arith, small (goal.at.overflow_add-result-in-Instance c).After-base_of-base, c.whole_work-all.ensures.small)

pub returns-in-Window : goal.returns-in-Window
unfolding base_of
returns-in-Window c =
    let is = c.in-Window.is in
    record { value = rw is (ap₂ ◌+◌ (rw is at (based (goal.at.returns-in-Window c).After-base_of-base)) c.whole_work.ensures.value); small = omega (arith, small (goal.at.returns-in-Window c).After-base_of-base, c.whole_work.ensures.small); remembered = c.whole_work.ensures.remembered }

pub returns-in-Instance : goal.returns-in-Instance
unfolding base_of
returns-in-Instance c =
    let is = c.in-Instance.is in
    record { value = rw is (ap (λ (b : ℕ). b + (c.whole_work-all.result - c.own_demand.result)) (rw is at (based (goal.at.returns-in-Instance c).After-base_of-base)) ∙ (loads (c)).1); small = omega (arith, small (goal.at.returns-in-Instance c).After-base_of-base, c.whole_work-all.ensures.small); remembered = c.whole_work-all.ensures.remembered }
