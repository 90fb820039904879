-- `table_checks::lengths::is_length` meets its contract: the second test counts where the first holds.
use Rattle.table_checks.specs.Columns.{is_length}
use Rattle.table_checks.proofs.lengths.is_length.Goals as goal

pub returns-then-is_between : goal.returns-then-is_between
unfolding is_length
returns-then-is_between c = rw (← c.from.ensures, ← c.is_between.ensures, c.if-is_between.true)

pub returns-else-is_between : goal.returns-else-is_between
unfolding is_length
returns-else-is_between c = rw (← c.from.ensures, ← c.is_between.ensures, c.if-is_between.false)
