-- `frame_length_command::write_length` meets its contract: the line is written where it has room, and else the area is left.
use Rattle.std.specs.Prelude.{Ok}
use mathlib.Core.Path.{refl}
use Rattle.frame_table.specs.Laws.Areas.{area-short, area-written}
use Rattle.frame_length_command.specs.Command.{length_line}
use Rattle.frame_length_command.specs.Laws.Lines.{length-length, length-written}
use Rattle.frame_length_command.proofs.write_length.Goals as goal

pub returns-then-out-lt5 : goal.returns-then-out-lt5
returns-then-out-lt5 c =
    let answer = area-short (Ok tt) (length_line c.args.length) c.args.out.now _ _ (length-length c.args.length) refl c.if-out-lt5.true c.no_room.ensures in record { value = answer.0; out_after = answer.1 }

pub returns : goal.returns
returns c =
    let n = c.args.length in
    let answer = area-written (Ok tt) (length_line n) c.args.out.now _ _ (length-length n) refl c.if-out-lt5.false
    (length-written n c.args.out.now _ c.if-out-lt5.false c.write.ensures) in record { value = answer.0; out_after = answer.1 }
