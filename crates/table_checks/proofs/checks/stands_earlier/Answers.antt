use mathlib.Core.Path.{◌∙◌}
use native.Mathlib.Nat.{sub-zero}
use Rattle.arith.specs.Laws.Members.{exists-stop, exists-go, exists-end}
use Rattle.table_checks.specs.Checks.{stands_earlier}
use Rattle.table_checks.proofs.checks.stands_earlier.Goals as goal

pub loop-m-init : goal.loop-m-init
unfolding stands_earlier
loop-m-init c = rw sub-zero

pub returns-then-is_same_frame : goal.returns-then-is_same_frame
returns-then-is_same_frame c = exists-stop _ _ _ _ c.loop-m-test.true c.is_same_frame.ensures c.if-is_same_frame.true ∙ c.loop-m.invariant

pub loop-m-preserved : goal.loop-m-preserved
loop-m-preserved c = exists-go _ _ _ _ c.loop-m-test.true c.is_same_frame.ensures c.if-is_same_frame.false ∙ c.loop-m.invariant

pub returns : goal.returns
returns c = exists-end _ _ _ c.loop-m-test.false ∙ c.loop-m.invariant
