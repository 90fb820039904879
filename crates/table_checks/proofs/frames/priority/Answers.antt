-- `table_checks::frames::priority` meets its contract: the definition makes the same test.
use borrow.Author.Tests.{eq-eqb, ne_eqb}
use Rattle.table_checks.specs.Frames.{priority_of}
use Rattle.table_checks.proofs.frames.priority.Goals as goal

pub returns-then-kind-eq11 : goal.returns-then-kind-eq11
unfolding priority_of
returns-then-kind-eq11 c = rw (eq-eqb _ _ c.if-kind-eq11.true)

pub returns-else-kind-eq11 : goal.returns-else-kind-eq11
unfolding priority_of
returns-else-kind-eq11 c = rw (ne_eqb _ _ c.if-kind-eq11.false)
