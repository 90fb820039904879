-- `log_load::sheet::write_first` meets its contract: the two columns and the line feed fill the line.
use Rattle.log_load.specs.Theory.Sheet.{first-written}
use Rattle.log_load.proofs.sheet.write_first.Goals as goal

pub returns : goal.returns
returns c =
    let best = c.args.best in
    first-written best.count best.first c.args.line.now _ _ c.requires c.write.ensures c.write-2.ensures
