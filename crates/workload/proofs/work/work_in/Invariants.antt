-- The loop goes through the rows and adds up the demand of the frame in each.
use Rattle.bus_model.specs.Bounds.{demand}
use Rattle.workload.specs.Prepared.{table_of}
use Rattle.workload.proofs.Laws.Fine.{SumTo}
use Rattle.workload.proofs.work.work_in.Given as goal

abbrev pub invariant-loop-i : goal.invariant-loop-i
invariant-loop-i l = SumTo (λ g. demand g l.a l.n) 400400400 (table_of l.rows l.prepared) l.part l.sum l.i
