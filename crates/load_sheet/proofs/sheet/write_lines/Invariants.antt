-- `load_sheet::sheet::write_lines` meets its contract: after i turns the lines of the first i nodes are written, and the rest is as it was.
use mathlib.Core.Path.{◌≡◌}
use lib.ListN.{length}
use Rattle.load_sheet.specs.Sheet.{node_load}
use Rattle.load_sheet.proofs.Laws.Lines.{Written}
use Rattle.load_sheet.proofs.sheet.write_lines.Given as goal

abbrev pub invariant-loop-i : goal.invariant-loop-i
invariant-loop-i l = Written (node_load l.table.lengths l.table.rows.now) l.nodes l.initial.out l.out l.most l.i × (length l.out ≡ length l.initial.out)
