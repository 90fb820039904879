-- By the level.
use borrow.Author.Tests.{eq-eqb, ne_eqb}
use Rattle.bounds.proofs.deciding.enough_for.Goals as goal

pub returns-then-level-eq-LAST_LEVEL : goal.returns-then-level-eq-LAST_LEVEL
returns-then-level-eq-LAST_LEVEL c = rw (eq-eqb _ _ c.if-level-eq-LAST_LEVEL.true)

pub returns-else-level-eq-LAST_LEVEL : goal.returns-else-level-eq-LAST_LEVEL
returns-else-level-eq-LAST_LEVEL c = rw (ne_eqb _ _ c.if-level-eq-LAST_LEVEL.false)
