use mathlib.Core.Path.{refl, ◌∙◌}
use native.Mathlib.Nat.{sub-zero}
use Rattle.std.proofs.lemmas.Result.{err_from_is_err_and}
use Rattle.table_checks.specs.Checks.{lines_check}
use Rattle.table_checks.proofs.Laws.First.{first-stop, first-go, first-end}
use Rattle.table_checks.proofs.checks.lines.Goals as goal

pub loop-i-init : goal.loop-i-init
unfolding lines_check
loop-i-init c = rw sub-zero

pub returns-in_err-line : goal.returns-in_err-line
returns-in_err-line c = let p = err_from_is_err_and c.from_residual.result c.from_residual.ensures.1 in rw (p.1, p.2) (first-stop _ _ _ _ _ c.loop-i-test.true c.in_err-line.ensures refl ∙ c.loop-i.invariant)

pub loop-i-preserved : goal.loop-i-preserved
loop-i-preserved c = first-go _ _ _ _ c.loop-i-test.true c.in_ok-line.ensures refl ∙ c.loop-i.invariant

pub returns : goal.returns
returns c = first-end _ _ _ c.loop-i-test.false ∙ c.loop-i.invariant
