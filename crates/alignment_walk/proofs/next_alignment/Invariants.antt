-- The loop goes through the rows and keeps the first next release, cut at the end.
use Rattle.workload.specs.Prepared.{table_of}
use Rattle.alignment_walk.proofs.Laws.Parts.{FirstTo}
use Rattle.alignment_walk.proofs.next_alignment.Given as goal

abbrev pub invariant-loop-i : goal.invariant-loop-i
invariant-loop-i l = FirstTo l.after l.end (table_of l.rows l.prepared) l.part l.best l.i
