-- `load_sheet::loads::has_frames` meets its contract: the invariant says that the rows left decide.
use Rattle.load_sheet.proofs.Laws.Loads.{Decides}
use Rattle.load_sheet.proofs.loads.has_frames.Given as goal

abbrev pub invariant-loop-i : goal.invariant-loop-i
invariant-loop-i l = Decides l.rows l.node l.i
