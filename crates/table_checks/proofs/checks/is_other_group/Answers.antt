-- `table_checks::checks::is_other_group` meets its contract: the groups are compared where the nodes are the same.
use borrow.Author.Tests.{eq-eqb, ne_eqb}
use Rattle.table_checks.specs.Checks.{is_other_group}
use Rattle.table_checks.proofs.checks.is_other_group.Goals as goal

pub returns-then-t-m : goal.returns-then-t-m
unfolding is_other_group
returns-then-t-m c = simp (eq-eqb _ _ c.if-t-m.true)

pub returns-else-t-m : goal.returns-else-t-m
unfolding is_other_group
returns-else-t-m c = simp (ne_eqb _ _ c.if-t-m.false)
