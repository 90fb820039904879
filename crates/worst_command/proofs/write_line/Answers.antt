-- The line is written where it has room, and else the area is left.
use Rattle.std.specs.Prelude.{Ok}
use mathlib.Core.Path.{refl}
use native.Mathlib.Omega.{arith}
use lib.ListN.{length-take, length-drop}
use Rattle.workload.proofs.Laws.Groups.{fine-never}
use Rattle.frame_table.specs.Laws.Areas.{area-short, area-written}
use Rattle.bus_model.specs.declared.Faults.TheVariants.{Never}
use Rattle.certifier.specs.Listing.{line_of}
use Rattle.worst_command.specs.Laws.Text.{length-alone, alone-written}
use Rattle.worst_command.proofs.write_line.Goals as goal

pub returns-then-out-lt-LINE : goal.returns-then-out-lt-LINE
returns-then-out-lt-LINE c =
    let a = c.args in
    let table = a.table.now in
    let answer = area-short (Ok tt) (line_of Never table.lengths table.rows.now a.i) a.out.now _ _ (length-alone table.lengths table.rows.now a.i) refl c.if-out-lt-LINE.true c.no_room.ensures in record { value = answer.0; out_after = answer.1 }

pub write_row-requires : goal.write_row-requires
write_row-requires c = record { fine_faults = fine-never; i_in_bounds = (c.requires, simp (length-take, length-drop) (omega (arith, c.if-out-lt-LINE.false))) }

pub returns : goal.returns
returns c =
    let a = c.args in
    let table = a.table.now in
    let answer = area-written (Ok tt) (line_of Never table.lengths table.rows.now a.i) a.out.now _ _ (length-alone table.lengths table.rows.now a.i) refl c.if-out-lt-LINE.false (alone-written table.lengths table.rows.now a.i a.out.now _ c.write_row.ensures) in record { value = answer.0; out_after = answer.1 }
