-- The loop goes through the rows, adds up the demand of whole periods, and notes what the walk asks for.
use Rattle.workload.specs.Prepared.{table_of}
use Rattle.workload.proofs.Laws.Fine.{SumTo}
use Rattle.alignment_walk.specs.Steps.{wait_from, whole_demand}
use Rattle.alignment_walk.proofs.Laws.Steps.{NotedTo, NotesTo}
use Rattle.alignment_walk.proofs.begin.Given as goal

abbrev pub invariant-loop-i : goal.invariant-loop-i
invariant-loop-i l =
    SumTo (whole_demand l.n) 400000400 (table_of l.rows l.prepared) l.part l.whole l.i × NotesTo l.n (table_of l.rows l.prepared) l.part l.notes l.i × NotedTo (wait_from l.first l.first) (table_of l.rows l.prepared) l.part l.waits l.i
