-- By the test.
use mathlib.Core.Path.{sym, ◌∙◌}
use Rattle.worst_case.specs.Answer.{worst_row}
use Rattle.worst_case.proofs.row.worst_row.Goals as goal

pub returns-then-all_early : goal.returns-then-all_early
unfolding worst_row
returns-then-all_early c = rw (sym c.all_early.ensures ∙ c.if-all_early.true) c.worst_bounded.ensures

pub returns-else-all_early : goal.returns-else-all_early
unfolding worst_row
returns-else-all_early c = rw (sym c.all_early.ensures ∙ c.if-all_early.false)
