-- As for a group, through the rows of the part.
use Rattle.std.proofs.Common.{◌≤◌}
use Rattle.arith.specs.Laws.Walks.{Down}
use Rattle.bus_model.specs.Pattern.{hyperperiod}
use Rattle.table_checks.specs.Frames.{frames_of}
use Rattle.workload.specs.Prepared.{frames_in}
use Rattle.workload.proofs.groups.part_hyperperiod.Given as goal

abbrev pub invariant-loop-i : goal.invariant-loop-i
invariant-loop-i l = Down hyperperiod (frames_in (frames_of l.lengths l.rows) l.part) l.h l.i × (1 ≤ l.h)
