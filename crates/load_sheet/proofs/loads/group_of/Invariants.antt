-- `load_sheet::loads::group_of` meets its contract: the invariant says that none of the rows passed is the node's.
use Rattle.load_sheet.proofs.Laws.Loads.{Ungrouped}
use Rattle.load_sheet.proofs.loads.group_of.Given as goal

abbrev pub invariant-loop-i : goal.invariant-loop-i
invariant-loop-i l = Ungrouped l.rows l.node l.i
