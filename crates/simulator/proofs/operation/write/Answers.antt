-- `simulator::operation::write` meets its contract: the log is written where it has room, and else the area is left.
use Rattle.std.specs.Prelude.{Ok}
use mathlib.Core.Path.{refl, ap, ◌∙◌}
use mathlib.Core.List.{List, ◌++◌}
use Prim.Native.Nat.{ℕ, ◌*◌}
use lib.ListN.{drop}
use native.Mathlib.Omega.{arith}
use Rattle.frame_table.specs.Laws.Areas.{area-short, area-written}
use Rattle.simulator.specs.Simulate.{text_of}
use Rattle.simulator.specs.Theory.Bounds.{Within}
use Rattle.simulator.specs.Theory.First.{Early}
use Rattle.simulator.proofs.Theory.First.{first-within, starts-early}
use Rattle.simulator.proofs.Theory.Answers.{length-text, text-from}
use Rattle.simulator.proofs.operation.write.Goals as goal
use Rattle.simulator.proofs.operation.write.Goals.{After-draw_starts-starts}

-- the starts that are drawn
early : (c : After-draw_starts-starts) → Early c.draw_starts-starts.result
early c =
    let p = c.args.table.now.accepted in
    rw c.draw_starts-starts.ensures (starts-early c.args.table.now.lengths p.0 c.args.table.now.rows.now p.1 c.args.seed 16 (omega arith))

pub returns-then-out-lines : goal.returns-then-out-lines
returns-then-out-lines c =
    let answer = area-short (Ok tt) (text_of c.args.table.now.lengths c.args.table.now.rows.now c.args.seed c.args.lines) c.args.out.now _ _
    (length-text c.args.table.now.lengths c.args.table.now.rows.now c.args.seed c.args.lines) refl c.if-out-lines.true c.no_room.ensures in record { value = answer.0; out_after = answer.1 }

pub first-first-requires : goal.first-first-requires
first-first-requires c = early (goal.at.first-first-requires c).After-draw_starts-starts

pub write_log-requires : goal.write_log-requires
write_log-requires c =
    let p = c.args.table.now.accepted in
    let within : Within c.first-first.result 2000000 = rw c.first-first.ensures (first-within c.args.table.now.lengths p.0 c.args.table.now.rows.now p.1 c.draw_starts-starts.result (early (goal.at.write_log-requires c).After-draw_starts-starts)) in
    (within, c.requires, c.if-out-lines.false)

pub returns : goal.returns
returns c =
    let ls = c.args.table.now.lengths in
    let rows : List ℕ = c.args.table.now.rows.now in
    let old : List ℕ = c.args.out.now in
    let lines = c.args.lines in
    let text = text-from ls rows c.args.seed lines c.draw_starts-starts.ensures c.first-first.ensures in
    let answer = area-written (Ok tt) (text_of ls rows c.args.seed lines) old _ _ (length-text ls rows c.args.seed lines) refl c.if-out-lines.false
    (c.write_log.ensures ∙ ap (λ (x : List ℕ). x ++ drop (40 * lines) old) text) in record { value = answer.0; out_after = answer.1 }
