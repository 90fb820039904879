-- `log_command::write_starts` meets its contract: the lines are written where they have room, and else the area is left.
use Rattle.std.specs.Prelude.{Ok}
use mathlib.Core.Path.{refl}
use Rattle.frame_table.specs.Laws.Areas.{area-short, area-written}
use Rattle.log_command.specs.Command.{starts_text}
use Rattle.log_command.specs.Laws.Lines.{length-text}
use Rattle.log_command.proofs.write_starts.Goals as goal

pub returns-then-out-lt-LONGEST : goal.returns-then-out-lt-LONGEST
returns-then-out-lt-LONGEST c = let answer = area-short (Ok tt) _ _ _ _ (length-text _) refl c.if-out-lt-LONGEST.true c.no_room.ensures in record { value = answer.0; out_after = answer.1 }

pub returns : goal.returns
returns c =
    let answer = area-written (Ok tt) (starts_text c.args.starts.now) c.args.out.now _ _ (length-text c.args.starts.now) refl c.if-out-lt-LONGEST.false c.write_lines.ensures in record { value = answer.0; out_after = answer.1 }
