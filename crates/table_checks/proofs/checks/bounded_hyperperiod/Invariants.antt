-- `table_checks::checks::bounded_hyperperiod` meets its contract: the invariant has the hyperperiod of the rows read, which no row lowers, so one that is too great stays so.
use Prim.Native.Nat.{◌≤◌, ◌<◌}
use Rattle.bus_model.specs.Theory.Hyperperiod.{hyper_of}
use Rattle.table_checks.proofs.ChecksLaws.{Rows}
use Rattle.table_checks.proofs.checks.bounded_hyperperiod.Given as goal

abbrev pub invariant-loop-i : goal.invariant-loop-i
invariant-loop-i l = Rows (hyper_of l.group) l.t l.h l.i × (0 < l.h) × (l.h ≤ 1000000)
