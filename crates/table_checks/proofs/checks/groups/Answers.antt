use mathlib.Core.Path.{refl, ◌∙◌}
use native.Mathlib.Omega.{arith}
use Rattle.std.proofs.lemmas.Result.{err_from_is_err_and}
use Rattle.table_checks.specs.Checks.{groups_check}
use Rattle.table_checks.proofs.Laws.First.{first-stop, first-go, first-end}
use Rattle.table_checks.proofs.checks.groups.Goals as goal

pub loop-j-init : goal.loop-j-init
unfolding groups_check
loop-j-init c = refl

pub returns-in_err-group : goal.returns-in_err-group
returns-in_err-group c = let p = err_from_is_err_and c.from_residual.result c.from_residual.ensures.1 in rw (p.1, p.2) (first-stop _ 17 c.loop-j.j _ _ (omega arith) c.in_err-group.ensures refl ∙ c.loop-j.invariant)

pub loop-j-preserved : goal.loop-j-preserved
loop-j-preserved c = first-go _ 17 c.loop-j.j _ (omega arith) c.in_ok-group.ensures refl ∙ c.loop-j.invariant

pub returns : goal.returns
returns c = first-end _ _ _ c.loop-j-test.false ∙ c.loop-j.invariant
