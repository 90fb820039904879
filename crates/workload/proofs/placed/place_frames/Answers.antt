use Rattle.std.proofs.Common.{◌<◌, length, ap, arith}
use Rattle.workload.specs.Prepared.{Fine, table_of}
use Rattle.workload.specs.Placed.{Placed, placed_frame}
use Rattle.workload.proofs.Laws.Prepared.{length-table}
use Rattle.workload.proofs.Laws.Placed.{place_none, place-put, place-skip, place-all}
use Rattle.workload.proofs.placed.place_frames.Goals as goal
use Rattle.workload.proofs.placed.place_frames.Goals.{After-row_at-r, then-is_load, else-is_load}

-- the row is one of the table
inside : (c : After-row_at-r) → c.loop-i.i < length (table_of c.args.rows.now c.args.prepared.now)
inside c = omega (arith, length-table c.args.rows.now c.args.prepared.now, c.loop-i-test.true)

-- its frame is within the limits
fine : (c : After-row_at-r) → Fine c.row_at-r.result.frame
fine c = rw c.row_at-r.ensures (c.requires.filled.table.fine c.loop-i.i (inside c))

-- there is room for its frame
room : (c : After-row_at-r) → c.loop-i.found < 65
room c = omega (arith, c.loop-i.invariant.few, inside c, c.requires.filled.table.few)

pub loop-i-init : goal.loop-i-init
loop-i-init c = place_none c.requires.area_len

pub overflow_sub-choice : goal.overflow_sub-choice
overflow_sub-choice c = omega (arith, (fine (goal.at.overflow_sub-choice c).After-row_at-r).group-low)

pub bounds-area-found : goal.bounds-area-found
bounds-area-found c = omega (arith, c.loop-i.invariant.size, room (goal.at.bounds-area-found c).After-row_at-r)

pub first_release-requires : goal.first_release-requires
first_release-requires c = fine (goal.at.first_release-requires c).After-row_at-r

pub loop-i-preserved : goal.loop-i-preserved
unfolding placed_frame
loop-i-preserved c =
    let g = c.row_at-r.result.frame in
    let row = (goal.at.loop-i-preserved c).After-row_at-r in
    elim c.if-is_load.branch [
      | then-is_load w ↦ place-put c.loop-i.invariant (inside row) c.row_at-r.ensures c.is_load.ensures (room row) w.if-is_load.true _ (ap {B = Placed} (λ x. record { length = g.length; period = g.period; first = x }) w.first_release.ensures) w.area-is w.found-is
      | else-is_load w ↦ place-skip c.loop-i.invariant (inside row) c.row_at-r.ensures c.is_load.ensures w.if-is_load.false w.area-is w.found-is
    ]

pub returns : goal.returns
returns c =
    let rows = length-table c.args.rows.now c.args.prepared.now in
    record { area_after = place-all c.loop-i.invariant (omega (arith, rows, c.loop-i-test.false)); few = omega (arith, c.loop-i.invariant.few, rows, c.loop-i.auto.i-end, c.requires.filled.table.few) }
