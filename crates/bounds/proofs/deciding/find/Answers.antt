-- By what is found: no window, the approximate bound, the precise one, or that of a level.
use mathlib.Core.Path.{◌≡◌, sym, ◌∙◌}
use mathlib.Core.Bool.{false}
use native.Mathlib.Omega.{arith}
use Rattle.bus_model.specs.Bounds.{approximate_bound}
use Rattle.bus_model.specs.Judgement.{lacks_window}
use Rattle.bus_model.proofs.Theory.Levels.{deepest-le}
use Rattle.workload.proofs.Laws.Fine.{in-table-fine}
use Rattle.greatest_work.specs.Setting.{frames, listed}
use Rattle.bounds.specs.Find.{bound_for}
use Rattle.bounds.specs.Laws.Search.{found-limits, by-deepest, free-start, one-fixed}
use Rattle.bounds.proofs.deciding.find.Goals as goal
use Rattle.bounds.proofs.deciding.find.Goals.{After-refine_own-rough, Else-lacks_window}

pub lacks_window-requires : goal.lacks_window-requires
lacks_window-requires c = record { remembered = c.busy_window-limit.ensures.remembered; limit_value = c.busy_window-limit.ensures.value }

pub returns-then-lacks_window : goal.returns-then-lacks_window
unfolding bound_for
returns-then-lacks_window c = record { value = rw (sym c.lacks_window.ensures.value ∙ c.if-lacks_window.true); remembered = c.lacks_window.ensures.remembered }

-- no window lacks
has : (c : Else-lacks_window) → let a = c.args in lacks_window a.setting.now.target.faults (frames a.setting.now) a.setting.now.target.frame ≡ false
has c = sym c.lacks_window.ensures.value ∙ c.if-lacks_window.false

pub refine_own-rough-requires : goal.refine_own-rough-requires
refine_own-rough-requires c =
    record { remembered = c.lacks_window.ensures.remembered; own_open = free-start c.args.setting.now.posed.prepared.filled.table (listed c.args.setting.now); limits = found-limits _ _ _ _ _ c.busy_window-limit.ensures.value; frame_value = (has (goal.at.refine_own-rough-requires c).Else-lacks_window, omega arith) }

-- what is found is the approximate bound
rough : (c : After-refine_own-rough) → let a = c.args in c.refine_own-rough.result ≡ approximate_bound a.setting.now.target.faults (frames a.setting.now) a.setting.now.target.frame
rough c = one-fixed c.args.setting.now.posed.prepared.filled.table (listed c.args.setting.now) _ (omega (arith, c.refine_own-rough.ensures.settles, c.refine_own-rough.type_inv))

pub returns-then-is_met : goal.returns-then-is_met
unfolding bound_for
returns-then-is_met c =
    record { value = rw (has (goal.at.returns-then-is_met c).Else-lacks_window, ← rough (goal.at.returns-then-is_met c).After-refine_own-rough, sym c.is_met.ensures ∙ c.if-is_met.true); remembered = c.refine_own-rough.ensures.remembered }

pub deepest_level-level-requires : goal.deepest_level-level-requires
deepest_level-level-requires c =
    let p = c.args.setting.now.posed.prepared in
    record { prepared = p; fine = in-table-fine _ p.filled.table (listed c.args.setting.now) }

pub by_level-requires : goal.by_level-requires
by_level-requires c =
    let a = c.args in
    record { remembered = c.refine_own-rough.ensures.remembered; limits = found-limits _ _ _ _ _ c.busy_window-limit.ensures.value; frame_value = (has (goal.at.by_level-requires c).Else-lacks_window, omega (arith, c.deepest_level-level.ensures, deepest-le (frames a.setting.now) a.setting.now.target.frame)) }

pub returns : goal.returns
unfolding bound_for
returns c =
    let t = c.args.setting.now.posed.prepared.filled.table in
    record { value = rw (has (goal.at.returns c).Else-lacks_window, ← rough (goal.at.returns c).After-refine_own-rough, sym c.is_met.ensures ∙ c.if-is_met.false, ← by-deepest t (listed c.args.setting.now) c.deepest_level-level.ensures _ _, ← c.deepest_level-level.ensures) c.by_level.ensures.value; remembered = c.by_level.ensures.remembered }
