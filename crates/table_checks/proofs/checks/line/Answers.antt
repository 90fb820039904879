-- `table_checks::checks::line` meets its contract: a cause against the columns comes first.
use mathlib.Core.Path.{sym, ◌∙◌}
use Rattle.std.proofs.lemmas.Result.{err_from_is_err_and}
use Rattle.table_checks.specs.Checks.{line_check}
use Rattle.table_checks.proofs.checks.line.Goals as goal

pub returns-in_err-columns : goal.returns-in_err-columns
unfolding line_check
returns-in_err-columns c = let p = err_from_is_err_and c.from_residual.result c.from_residual.ensures.1 in rw (p.1, p.2, ← c.in_err-columns.ensures)

pub returns-then-stands_earlier : goal.returns-then-stands_earlier
unfolding line_check
returns-then-stands_earlier c =
    simp (sym c.in_ok-columns.ensures, sym c.stands_earlier.ensures ∙ c.if-stands_earlier.true) c.fail.ensures

pub returns-then-has_second_group : goal.returns-then-has_second_group
unfolding line_check
returns-then-has_second_group c =
    simp (
      sym c.in_ok-columns.ensures,
      sym c.stands_earlier.ensures ∙ c.if-stands_earlier.false,
      sym c.has_second_group.ensures ∙ c.if-has_second_group.true,
    ) c.fail-then-has_second_group.ensures

pub returns-else-has_second_group : goal.returns-else-has_second_group
unfolding line_check
returns-else-has_second_group c =
    simp (
      sym c.in_ok-columns.ensures,
      sym c.stands_earlier.ensures ∙ c.if-stands_earlier.false,
      sym c.has_second_group.ensures ∙ c.if-has_second_group.false,
    )
