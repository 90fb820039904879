-- `simulator::drawing::draw_starts` meets its contract: the groups below the next one have drawn.
use Rattle.std.specs.Prelude.{◌≡◌, ◌-◌}
use Rattle.table_checks.specs.Table.{frames}
use Rattle.simulator.specs.Starts.{starts_drawn}
use Rattle.simulator.proofs.drawing.draw_starts.Given as goal

abbrev pub invariant-loop-group : goal.invariant-loop-group
invariant-loop-group l = l.d ≡ starts_drawn (frames l.table) l.seed (l.group - 1)
