use mathlib.Core.Path.{refl, ◌∙◌}
use Rattle.std.proofs.lemmas.Result.{err_from_is_err_and}
use Rattle.table_checks.specs.Checks.{columns_check}
use Rattle.table_checks.proofs.Laws.First.{first-stop, first-go, first-end}
use Rattle.table_checks.proofs.checks.columns.Goals as goal

pub loop-j-init : goal.loop-j-init
unfolding columns_check
loop-j-init c = refl

pub returns-in_err-column : goal.returns-in_err-column
returns-in_err-column c = let p = err_from_is_err_and c.from_residual.result c.from_residual.ensures.1 in rw (p.1, p.2) (first-stop _ _ _ _ _ c.loop-j-test.true c.in_err-column.ensures refl ∙ c.loop-j.invariant)

pub loop-j-preserved : goal.loop-j-preserved
loop-j-preserved c = first-go _ _ _ _ c.loop-j-test.true c.in_ok-column.ensures refl ∙ c.loop-j.invariant

pub returns : goal.returns
returns c = first-end _ _ _ c.loop-j-test.false ∙ c.loop-j.invariant
