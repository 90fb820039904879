-- `load_sheet::sheet::write_last` meets its contract: the two columns and the line feed fill the line.
use borrow.Author.Rules.{rules}
use lib.ListN.{length-set}
use Rattle.load_sheet.proofs.Laws.Lines.{last_written}
use Rattle.load_sheet.proofs.sheet.write_last.Goals as goal

pub shape_of-line : goal.shape_of-line
shape_of-line c = simp length-set (search rules)

pub returns : goal.returns
returns c =
    last_written _ _ c.args.line.now _ _ c.requires c.write.ensures c.write-2.ensures
