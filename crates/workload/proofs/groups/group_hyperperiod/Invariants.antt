-- The invariant has the least common multiple of the rows read, which is at most that of all.
use Rattle.std.proofs.Common.{◌≤◌}
use Rattle.arith.specs.Laws.Walks.{Down}
use Rattle.bus_model.specs.Theory.Hyperperiod.{hyper_of}
use Rattle.table_checks.specs.Frames.{frames_of}
use Rattle.workload.proofs.groups.group_hyperperiod.Given as goal

abbrev pub invariant-loop-i : goal.invariant-loop-i
invariant-loop-i l = Down (hyper_of l.group) (frames_of l.lengths l.rows) l.h l.i × (1 ≤ l.h)
