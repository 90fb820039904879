-- `simulator::turn::entry_next` meets its contract.
use mathlib.Core.Path.{◌≡◌, ◌∙◌}
use native.Mathlib.Omega.{arith}
use Rattle.table_checks.specs.Table.{frames}
use Rattle.table_checks.proofs.Laws.Accepted.{length-frames, accepted-size}
use Rattle.simulator.specs.Engine.{row_next, entry_next}
use Rattle.simulator.proofs.Theory.Bounds.{row_inside, row_within}
use Rattle.simulator.proofs.turn.entry_next.Goals as goal
use Rattle.simulator.proofs.turn.entry_next.Goals.{After-best-k}

-- the row that is sent
row_is : (c : After-best-k) → c.best-k.result ≡ row_next (frames c.args.table.now) c.args.s
unfolding row_next
row_is c = c.best-k.ensures.value ∙ rw (c.start_next-start.ensures, c.count.ensures, length-frames c.args.table.now.lengths c.args.table.now.rows.now)

pub start_next-start-requires : goal.start_next-start-requires
start_next-start-requires c = omega (arith, c.count.ensures, (accepted-size _ c.args.table.now.accepted.1).most)

pub length_from-requires : goal.length_from-requires
length_from-requires c =
    let t = c.args.table.now in
    let within = row_within t.lengths t.accepted.0 t.rows.now t.accepted.1 _ (row_inside t.lengths t.accepted.0 t.rows.now t.accepted.1 c.args.s) in
    rw (c.frame-g.ensures, row_is (goal.at.length_from-requires c).After-best-k) within.length-min

pub returns : goal.returns
unfolding entry_next
returns c =
    let t = c.args.table.now in
    rw (← row_is (goal.at.returns c).After-best-k, length-frames t.lengths t.rows.now, ← c.count.ensures, ← c.start_next-start.ensures, c.length_from.ensures, c.frame-g.ensures)
