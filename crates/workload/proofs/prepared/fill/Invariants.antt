-- The invariant has the rows whose numbers are put.
use Rattle.workload.proofs.Laws.Prepared.{FilledTo}
use Rattle.workload.proofs.prepared.fill.Given as goal

abbrev pub invariant-loop-i : goal.invariant-loop-i
invariant-loop-i l = FilledTo l.lengths l.rows l.area l.i
