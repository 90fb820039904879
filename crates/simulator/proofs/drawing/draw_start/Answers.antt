-- `simulator::drawing::draw_start` meets its contract.
use native.Mathlib.Omega.{arith}
use Rattle.table_checks.proofs.Laws.Accepted.{hyper-same}
use Rattle.simulator.specs.Starts.{start_drawn}
use Rattle.simulator.proofs.Theory.First.{hyper-some}
use Rattle.simulator.proofs.drawing.draw_start.Goals as goal

pub nonzero_rem-starts : goal.nonzero_rem-starts
nonzero_rem-starts c =
    omega (arith, rw c.from.ensures at c.hyperperiod-h.ensures, hyper-same c.args.table.now.lengths c.args.table.now.rows.now c.args.group, hyper-some c.args.table.now.lengths c.args.table.now.accepted.0 c.args.table.now.rows.now c.args.table.now.accepted.1 c.args.group)

pub returns-then-has_frames : goal.returns-then-has_frames
unfolding start_drawn
returns-then-has_frames c =
    rw (← c.has_frames.ensures, c.if-has_frames.true, ← c.drawn-v.ensures, hyper-same c.args.table.now.lengths c.args.table.now.rows.now c.args.group, ← c.from.ensures, ← c.hyperperiod-h.ensures, c.from-then-has_frames.ensures)

pub returns-else-has_frames : goal.returns-else-has_frames
unfolding start_drawn
returns-else-has_frames c = rw (← c.has_frames.ensures, c.if-has_frames.false)
