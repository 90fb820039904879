-- `log_check::follow_log` meets its contract: the lines left decide.
use Prim.Native.Nat.{◌-◌}
use mathlib.Core.Path.{◌≡◌}
use mathlib.Core.List.{map}
use Rattle.arith.specs.Lists.{range}
use Rattle.table_checks.specs.Table.{frames}
use Rattle.bus_log.specs.Follow.{follow, follow_log}
use Rattle.log_check.specs.Check.{lines_of}
use Rattle.log_check.specs.Laws.Loop.{entry_at}
use Rattle.log_check.proofs.follow.follow_log.Given as goal

abbrev pub invariant-loop-i : goal.invariant-loop-i
invariant-loop-i l = follow (frames l.table) l.p l.i (map (entry_at l.table.lengths l.table.rows.now l.text) (range l.i (l.n - l.i))) ≡ follow_log (frames l.table) l.table.rows.now (lines_of l.text)
