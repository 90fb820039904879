-- `workload::groups::by_group` meets its contract: the invariant has the groups that are listed.
use Rattle.table_checks.specs.Frames.{frames_of}
use Rattle.workload.proofs.Laws.Groups.{ListedTo}
use Rattle.workload.proofs.groups.by_group.Given as goal

abbrev pub invariant-loop-j : goal.invariant-loop-j
invariant-loop-j l = ListedTo (frames_of l.lengths l.rows) l.k l.lists l.listed l.j
