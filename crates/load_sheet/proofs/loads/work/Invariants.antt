-- `load_sheet::loads::work` meets its contract: the invariant has the work of the frames read.
use Prim.Native.Nat.{◌-◌, ◌*◌, ◌/◌, ◌≤◌}
use lib.ListN.{length}
use Rattle.arith.specs.Lists.{range}
use Rattle.arith.specs.Laws.Walks.{Down}
use Rattle.table_checks.specs.Columns.{columns}
use Rattle.load_sheet.proofs.Laws.Loads.{work_of}
use Rattle.load_sheet.proofs.loads.work.Given as goal

abbrev pub invariant-loop-i : goal.invariant-loop-i
invariant-loop-i l = Down (work_of l.table.lengths l.table.rows.now l.h l.node) (range 0 (length l.table.rows.now / columns)) l.sum l.i × (l.sum ≤ 400000000 * (length l.table.rows.now / columns - l.i)) × (l.i ≤ length l.table.rows.now / columns)
