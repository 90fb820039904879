-- By what is enough: where nothing is asked, or the bound that is found is above it, there are too many scenarios; else by the level.
use mathlib.Core.Path.{sym, ◌∙◌}
use native.Mathlib.Omega.{arith}
use Rattle.greatest_work.specs.Setting.{ready, listed}
use Rattle.bounds.specs.Laws.Search.{free-start, decided-unasked, decided-above, decided-last, decided-level}
use Rattle.bounds.proofs.deciding.by_level.Goals as goal

pub returns-in_default : goal.returns-in_default
returns-in_default c =
    let p = (ready c.args.setting.now c.requires.remembered) in
    record { value = decided-unasked p.prepared.filled.table p.listed c.args.setting.now.target.faults c.args.level c.args.claim c.args.rough (sym c.enough_for.ensures ∙ c.in_default.is); remembered = p.remembered }

pub refine_own-bound-requires : goal.refine_own-bound-requires
refine_own-bound-requires c =
    let p = c.requires in
    record { remembered = p.remembered; own_open = free-start c.args.setting.now.posed.prepared.filled.table (listed c.args.setting.now); limits = p.limits; frame_value = (p.frame_value.0, omega arith) }

pub returns-then-enough-bound : goal.returns-then-enough-bound
returns-then-enough-bound c =
    let p = (ready c.args.setting.now c.requires.remembered) in
    record { value = decided-above p.prepared.filled.table p.listed c.args.setting.now.target.faults c.args.level c.args.claim c.args.rough (sym c.enough_for.ensures ∙ c.in-Some.is) c.refine_own-bound.ensures.settles (omega (arith, c.refine_own-bound.type_inv)) c.if-enough-bound.true; remembered = c.refine_own-bound.ensures.remembered }

pub returns-then-level-eq-LAST_LEVEL : goal.returns-then-level-eq-LAST_LEVEL
returns-then-level-eq-LAST_LEVEL c =
    let p = (ready c.args.setting.now c.requires.remembered) in
    record { value = decided-last p.prepared.filled.table p.listed c.args.setting.now.target.faults c.args.level c.args.claim c.args.rough (sym c.enough_for.ensures ∙ c.in-Some.is) c.refine_own-bound.ensures.settles c.if-enough-bound.false c.if-level-eq-LAST_LEVEL.true; remembered = c.refine_own-bound.ensures.remembered }

pub returns : goal.returns
returns c =
    let p = (ready c.args.setting.now c.requires.remembered) in
    record { value = decided-level p.prepared.filled.table p.listed c.args.setting.now.target.faults c.args.level c.args.claim c.args.rough (sym c.enough_for.ensures ∙ c.in-Some.is) c.refine_own-bound.ensures.settles c.if-enough-bound.false c.if-level-eq-LAST_LEVEL.false; remembered = c.refine_own-bound.ensures.remembered }
