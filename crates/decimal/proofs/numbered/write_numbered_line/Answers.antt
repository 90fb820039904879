-- The columns and the line feed, one behind the other, are the line.
use borrow.Author.Rules.{rules}
use lib.ListN.{length-set}
use Rattle.decimal.specs.Laws.{numbered-written}
use Rattle.decimal.proofs.numbered.write_numbered_line.Goals as goal

pub shape_of-line : goal.shape_of-line
shape_of-line c = simp length-set (search rules)

pub returns : goal.returns
returns c =
    numbered-written c.args.width c.args.number c.args.value c.args.line.now _ _ c.requires c.write.ensures c.write-2.ensures
