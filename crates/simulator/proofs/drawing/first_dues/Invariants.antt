-- `simulator::drawing::first_dues` meets its contract: after i turns the first i are written.
use Rattle.std.specs.Prelude.{◌≡◌, map}
use Rattle.table_checks.specs.Table.{frames}
use Rattle.arith.specs.Lists.{range}
use Rattle.arith.specs.Laws.Overwriting.{over}
use Rattle.simulator.specs.Starts.{first_due}
use Rattle.simulator.proofs.drawing.first_dues.Given as goal

abbrev pub invariant-loop-i : goal.invariant-loop-i
invariant-loop-i l = l.due ≡ over (map (first_due (frames l.table) l.d) (range 0 64)) l.i l.initial.due
