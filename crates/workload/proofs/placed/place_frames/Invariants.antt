-- The invariant has the frames that are placed, and those to come from the rows that are left.
use Rattle.workload.specs.Prepared.{table_of}
use Rattle.workload.proofs.Laws.Placed.{PlacedTo}
use Rattle.workload.proofs.placed.place_frames.Given as goal

abbrev pub invariant-loop-i : goal.invariant-loop-i
invariant-loop-i l = PlacedTo (table_of l.rows l.prepared) l.k l.search l.choices l.area l.found l.i
