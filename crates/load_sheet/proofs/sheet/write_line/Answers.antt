-- `load_sheet::sheet::write_line` meets its contract: the four columns and the line feed fill the line.
use borrow.Author.Rules.{rules}
use lib.ListN.{length-set}
use Rattle.load_sheet.proofs.Laws.Lines.{line-written}
use Rattle.load_sheet.proofs.sheet.write_line.Goals as goal

pub shape_of-line : goal.shape_of-line
shape_of-line c = simp length-set (search rules)

pub returns : goal.returns
returns c =
    line-written _ c.args.load c.args.line.now _ _ _ _ c.requires
    c.write.ensures c.write-2.ensures c.write-3.ensures c.write-4.ensures
