use mathlib.Core.Path.{◌∙◌}
use native.Mathlib.Nat.{sub-zero}
use Rattle.arith.specs.Laws.Members.{exists-stop, exists-go, exists-end}
use Rattle.table_checks.specs.Checks.{has_second_group}
use Rattle.table_checks.proofs.checks.has_second_group.Goals as goal

pub loop-earlier-init : goal.loop-earlier-init
unfolding has_second_group
loop-earlier-init c = rw sub-zero

pub returns-then-is_other_group : goal.returns-then-is_other_group
returns-then-is_other_group c = exists-stop _ _ _ _ c.loop-earlier-test.true c.is_other_group.ensures c.if-is_other_group.true ∙ c.loop-earlier.invariant

pub loop-earlier-preserved : goal.loop-earlier-preserved
loop-earlier-preserved c = exists-go _ _ _ _ c.loop-earlier-test.true c.is_other_group.ensures c.if-is_other_group.false ∙ c.loop-earlier.invariant

pub returns : goal.returns
returns c = exists-end _ _ _ c.loop-earlier-test.false ∙ c.loop-earlier.invariant
