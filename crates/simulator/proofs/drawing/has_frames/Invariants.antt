-- `simulator::drawing::has_frames` meets its contract: the rows left decide.
use Rattle.std.specs.Prelude.{◌≡◌, ◌-◌, eqb}
use Rattle.table_checks.specs.Table.{frames}
use Rattle.arith.specs.Lists.{exists, range}
use Rattle.bus_model.specs.Frame.{row}
use Rattle.simulator.specs.Starts.{has_frames}
use Rattle.simulator.proofs.drawing.has_frames.Given as goal

abbrev pub invariant-loop-i : goal.invariant-loop-i
invariant-loop-i l =
    exists (λ k. eqb (row (frames l.table) k).group l.group) (range l.i (l.i-end - l.i)) ≡ has_frames (frames l.table) l.group
