-- The loop goes through the rows, adds what the rest asks for, notes the wait for the next release of the frame in each, and keeps the least.
use Prim.Native.Nat.{◌+◌, ◌-◌, ◌≤◌}
use Rattle.workload.specs.Prepared.{table_of}
use Rattle.workload.proofs.Laws.Fine.{SumTo}
use Rattle.alignment_walk.specs.Steps.{wait_from, extra_demand}
use Rattle.alignment_walk.proofs.Laws.Parts.{FirstTo}
use Rattle.alignment_walk.proofs.Laws.Steps.{NotedTo, NotedFrom}
use Rattle.alignment_walk.proofs.visit.Given as goal

abbrev pub invariant-loop-i : goal.invariant-loop-i
invariant-loop-i l =
    SumTo (extra_demand l.a l.n) 400 (table_of l.rows l.prepared) l.part l.extra l.i
    × FirstTo (l.a + 1) l.end (table_of l.rows l.prepared) l.part (l.a + l.least) l.i
    × (l.least ≤ l.end - l.a)
    × NotedTo (wait_from l.a (l.a + 1)) (table_of l.rows l.prepared) l.part l.waits l.i × NotedFrom (wait_from (l.a - l.gap) l.a) (table_of l.rows l.prepared) l.part l.waits l.i
