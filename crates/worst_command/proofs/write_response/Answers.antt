-- The columns and the line feed, one behind the other, are the line.
use borrow.Author.Rules.{rules}
use lib.ListN.{length-set}
use Rattle.worst_command.specs.Laws.Text.{response-written}
use Rattle.worst_command.proofs.write_response.Goals as goal

pub shape_of-line : goal.shape_of-line
shape_of-line c = simp length-set (search rules)

pub returns : goal.returns
returns c =
    let a = c.args in
    response-written a.instance a.response a.line.now _ _ c.requires c.write.ensures c.write-2.ensures
