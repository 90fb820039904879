use mathlib.Core.Path.{refl, ◌∙◌}
use Rattle.arith.specs.Laws.Members.{exists-stop, exists-go, exists-end}
use Rattle.table_checks.specs.Checks.{breaks_limits}
use Rattle.table_checks.proofs.lengths.breaks_limits.Goals as goal

pub loop-s-init : goal.loop-s-init
unfolding breaks_limits
loop-s-init c = refl

pub returns-then-is_outside : goal.returns-then-is_outside
returns-then-is_outside c = exists-stop _ _ _ _ c.loop-s-test.true c.is_outside.ensures c.if-is_outside.true ∙ c.loop-s.invariant

pub loop-s-preserved : goal.loop-s-preserved
loop-s-preserved c = exists-go _ _ _ _ c.loop-s-test.true c.is_outside.ensures c.if-is_outside.false ∙ c.loop-s.invariant

pub returns : goal.returns
returns c = exists-end _ _ _ c.loop-s-test.false ∙ c.loop-s.invariant
