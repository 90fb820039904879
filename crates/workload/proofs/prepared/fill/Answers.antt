use Rattle.std.proofs.Common.{◌<◌, arith, length-set}
use Rattle.table_checks.proofs.Laws.Accepted.{accepted-size, frame_row}
use Rattle.workload.proofs.Laws.Prepared.{filled_more, filled-all, priority-short}
use Rattle.workload.proofs.prepared.fill.Goals as goal
use Rattle.workload.proofs.prepared.fill.Goals.{After-frame-g}

-- the row is one of 64
few : (c : After-frame-g) → c.loop-i.i < 64
few c = omega (arith, c.loop-i-test.true, (accepted-size c.args.rows.now c.requires.0).most)

pub overflow_cast-area : goal.overflow_cast-area
overflow_cast-area c =
    record { fits = rw (c.frame-g.ensures, frame_row c.args.lengths c.args.rows.now c.loop-i.i c.loop-i-test.true) (priority-short c.args.lengths c.args.rows.now c.requires.0 c.loop-i.i c.loop-i-test.true) }

pub bounds-area-at : goal.bounds-area-at
bounds-area-at c = omega (arith, few (goal.at.bounds-area-at c).After-frame-g, c.loop-i.invariant.size)

pub bounds-area-at-in-loop-i : goal.bounds-area-at-in-loop-i
bounds-area-at-in-loop-i c = simp length-set (omega (arith, few (goal.at.bounds-area-at-in-loop-i c).After-frame-g, c.loop-i.invariant.size))

pub bounds-area-at-in-loop-i-2 : goal.bounds-area-at-in-loop-i-2
bounds-area-at-in-loop-i-2 c = simp length-set (omega (arith, few (goal.at.bounds-area-at-in-loop-i-2 c).After-frame-g, c.loop-i.invariant.size))

pub loop-i-preserved : goal.loop-i-preserved
loop-i-preserved c = filled_more c.loop-i.invariant (few (goal.at.loop-i-preserved c).After-frame-g) c.frame-g.ensures c.inverse_of.result

pub returns : goal.returns
returns c = filled-all c.loop-i.invariant c.loop-i-test.false
