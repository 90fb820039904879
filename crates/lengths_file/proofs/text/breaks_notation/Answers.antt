use mathlib.Core.Path.{refl, ◌∙◌}
use Rattle.arith.specs.Laws.Members.{exists-stop, exists-go, exists-end}
use Rattle.lengths_file.proofs.text.breaks_notation.Goals as goal

pub loop-s-init : goal.loop-s-init
loop-s-init c = refl

pub returns-then-is_broken : goal.returns-then-is_broken
returns-then-is_broken c = exists-stop _ _ _ _ c.loop-s-test.true c.is_broken.ensures c.if-is_broken.true ∙ c.loop-s.invariant

pub loop-s-preserved : goal.loop-s-preserved
loop-s-preserved c = exists-go _ _ _ _ c.loop-s-test.true c.is_broken.ensures c.if-is_broken.false ∙ c.loop-s.invariant

pub returns : goal.returns
returns c = exists-end _ _ _ c.loop-s-test.false ∙ c.loop-s.invariant
