-- `table_checks::checks::is_between` meets its contract: the second test counts where the first holds.
use borrow.Author.Tests.{le-leb, lt-leb}
use Rattle.table_checks.specs.Columns.{between}
use Rattle.table_checks.proofs.checks.is_between.Goals as goal

pub returns-then-low-v : goal.returns-then-low-v
unfolding between
returns-then-low-v c = simp (le-leb _ _ c.if-low-v.true)

pub returns-else-low-v : goal.returns-else-low-v
unfolding between
returns-else-low-v c = simp (lt-leb _ _ c.if-low-v.false)
