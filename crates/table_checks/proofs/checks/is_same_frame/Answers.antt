-- `table_checks::checks::is_same_frame` meets its contract: both numbers are compared.
use borrow.Author.Tests.{eq-eqb, ne_eqb}
use Rattle.table_checks.specs.Checks.{is_same_frame}
use Rattle.table_checks.proofs.checks.is_same_frame.Goals as goal

pub returns-then-t-m : goal.returns-then-t-m
unfolding is_same_frame
returns-then-t-m c = simp (eq-eqb _ _ c.if-t-m.true)

pub returns-else-t-m : goal.returns-else-t-m
unfolding is_same_frame
returns-else-t-m c = simp (ne_eqb _ _ c.if-t-m.false)
