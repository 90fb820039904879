-- By the test.
use borrow.Author.Rules.{rules}
use borrow.Author.Tests.{lt-ltb, le-ltb}
use Rattle.bounds.proofs.count.group_at.Goals as goal

pub returns-then-level-k : goal.returns-then-level-k
returns-then-level-k c = record { value = rw (lt-ltb _ _ c.if-level-k.true); listed = (search rules) }

pub returns-else-level-k : goal.returns-else-level-k
returns-else-level-k c = record { value = rw (le-ltb _ _ c.if-level-k.false) (search rules); listed = (search rules) }
