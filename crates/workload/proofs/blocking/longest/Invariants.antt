-- The invariant has the greatest length on that side of k of the rows read.
use Rattle.workload.specs.Prepared.{table_of}
use Rattle.workload.proofs.Laws.Groups.{side, LongestTo}
use Rattle.workload.proofs.blocking.longest.Given as goal

abbrev pub invariant-loop-i : goal.invariant-loop-i
invariant-loop-i l = LongestTo (side l.is_below l.k) (table_of l.rows l.prepared) l.longest l.i
