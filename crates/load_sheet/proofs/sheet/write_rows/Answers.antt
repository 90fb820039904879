-- `load_sheet::sheet::write_rows` meets its contract: lines and last line are written where they have room, and else the area is left.
use Rattle.std.specs.Prelude.{Ok}
use mathlib.Core.Path.{refl, sym, ap, ◌∙◌}
use native.Mathlib.Omega.{arith}
use lib.ListN.{length}
use Rattle.frame_table.specs.Laws.Areas.{area-short, area-written}
use Rattle.load_sheet.specs.Sheet.{sheet_of}
use Rattle.load_sheet.proofs.Laws.Lines.{nodes-of, length-sheet, sheet-written}
use Rattle.load_sheet.proofs.sheet.write_rows.Goals as goal

pub returns-then-out-end : goal.returns-then-out-end
returns-then-out-end c =
    let answer = area-short (Ok tt) (sheet_of c.args.table.now.lengths c.args.table.now.rows.now) c.args.out.now _ _
    (length-sheet c.args.table.now.lengths c.args.table.now.rows.now _ c.find_nodes-count.ensures.counted.0) refl c.if-out-end.true c.no_room.ensures in record { value = answer.0; out_after = answer.1 }

pub slice_bounds-write_lines-end : goal.slice_bounds-write_lines-end
slice_bounds-write_lines-end c =
    let found = c.find_nodes-count.ensures in
    found.counted.0 ∙ ap length (sym found.nodes_after)

pub write_lines-most-requires : goal.write_lines-most-requires
write_lines-most-requires c =
    let found = c.find_nodes-count.ensures in
    let size = ap length found.nodes_after in
    record { nodes = nodes-of _ _ found.nodes_after (omega (arith, size, found.counted)); nodes_in_bounds = omega (arith, size, found.counted, c.if-out-end.false) }

pub returns : goal.returns
returns c =
    let found = c.find_nodes-count.ensures in
    let lines = c.write_lines-most.ensures in
    let answer = area-written (Ok tt) (sheet_of c.args.table.now.lengths c.args.table.now.rows.now) c.args.out.now _ _
    (length-sheet c.args.table.now.lengths c.args.table.now.rows.now _ found.counted.0) refl c.if-out-end.false
    (sheet-written c.args.table.now.lengths c.args.table.now.rows.now _ _ _ _ _ _ found.nodes_after found.counted.0 lines.value lines.out_after c.write_last.ensures) in record { value = answer.0; out_after = answer.1 }
