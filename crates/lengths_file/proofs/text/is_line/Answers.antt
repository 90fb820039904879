-- `lengths_file::text::is_line` meets its contract: the line feed comes first.
use mathlib.Core.Path.{ap}
use mathlib.Core.Bool.{not}
use borrow.Author.Tests.{eq-eqb, ne_eqb}
use Rattle.lengths_file.specs.Lengths.{is_line}
use Rattle.lengths_file.proofs.text.is_line.Goals as goal

pub returns-then-file-k-eq-LINE_FEED : goal.returns-then-file-k-eq-LINE_FEED
unfolding is_line
returns-then-file-k-eq-LINE_FEED c = rw (eq-eqb _ _ c.if-file-k-eq-LINE_FEED.true) (ap not c.breaks_notation.ensures)

pub returns-else-file-k-eq-LINE_FEED : goal.returns-else-file-k-eq-LINE_FEED
unfolding is_line
returns-else-file-k-eq-LINE_FEED c = rw (ne_eqb _ _ c.if-file-k-eq-LINE_FEED.false)
