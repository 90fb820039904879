-- `log_load::sheet::write_rows` meets its contract: after i turns the first i lines are written.
use mathlib.Core.Path.{◌≡◌}
use Prim.Native.Nat.{◌*◌}
use lib.ListN.{length}
use Rattle.arith.specs.Laws.Overwriting.{over}
use Rattle.log_load.specs.Log.{lines}
use Rattle.log_load.specs.Sheet.{lines_from}
use Rattle.log_load.proofs.sheet.write_rows.Given as goal

abbrev pub invariant-loop-i : goal.invariant-loop-i
invariant-loop-i l = (l.out ≡ over (lines_from l.rows (lines l.log) l.n 0) (42 * l.i) l.initial.out) × (length l.out ≡ length l.initial.out)
