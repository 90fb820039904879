-- `table_checks::checks::frame_releases` meets its contract: only frames of the group count.
use borrow.Author.Tests.{eq-eqb, ne_eqb}
use Rattle.table_checks.proofs.checks.frame_releases.Goals as goal

pub returns-then-frame_group-group : goal.returns-then-frame_group-group
returns-then-frame_group-group c = simp (eq-eqb _ _ c.if-frame_group-group.true)

pub returns-else-frame_group-group : goal.returns-else-frame_group-group
returns-else-frame_group-group c = simp (ne_eqb _ _ c.if-frame_group-group.false)
