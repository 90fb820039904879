-- `workload::groups::gather` meets its contract: the invariant has the rows found and those still to come.
use Rattle.std.proofs.Common.{length}
use Rattle.table_checks.specs.Frames.{frames_of}
use Rattle.workload.proofs.Laws.Groups.{RowsGathered}
use Rattle.workload.proofs.groups.gather.Given as goal

abbrev pub invariant-loop-i : goal.invariant-loop-i
invariant-loop-i l = RowsGathered (frames_of l.lengths l.rows) l.k l.group (length l.initial.area) l.area l.found l.i
