-- `log_load::sheet::write_line` meets its contract: the four columns and the line feed fill the line.
use Rattle.log_load.specs.Theory.Sheet.{row_written}
use Rattle.log_load.proofs.sheet.write_line.Goals as goal

pub returns : goal.returns
returns c =
    row_written c.args.identifier c.args.seen c.args.line.now _ _ _ _ c.requires (rw c.from.ensures at c.write.ensures) c.write-2.ensures c.write-3.ensures c.write-4.ensures
