-- `frame_table::text::write_lines` meets its contract: after i turns the first i lines are written, and the rest is as it was.
use Prim.Native.Nat.{◌*◌}
use mathlib.Core.Path.{◌≡◌}
use lib.ListN.{length}
use Rattle.arith.specs.Laws.Overwriting.{over}
use Rattle.table_checks.specs.Columns.{line_length}
use Rattle.frame_table.specs.Text.{lines_from}
use Rattle.frame_table.proofs.text.write_lines.Given as goal

abbrev pub invariant-loop-i : goal.invariant-loop-i
invariant-loop-i l = (l.file ≡ over (lines_from l.rows l.lines 0) (line_length * l.i) l.initial.file) × (length l.file ≡ length l.initial.file)
