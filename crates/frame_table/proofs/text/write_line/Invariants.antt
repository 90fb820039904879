-- `frame_table::text::write_line` meets its contract: after j turns the first j columns are written, and the last store is the line feed.
use mathlib.Core.Path.{◌≡◌}
use lib.ListN.{length}
use Rattle.arith.specs.Laws.Overwriting.{over}
use Rattle.table_checks.specs.Columns.{start_of, line_length}
use Rattle.frame_table.specs.Text.{line_of}
use Rattle.frame_table.proofs.text.write_line.Given as goal

abbrev pub invariant-loop-j : goal.invariant-loop-j
invariant-loop-j l = (l.line ≡ over (line_of l.rows l.i) (start_of l.j) l.initial.line) × (length l.line ≡ line_length)
