-- The column and the line feed are the line.
use borrow.Author.Rules.{rules}
use native.Mathlib.Omega.{arith}
use lib.ListN.{length-set}
use Rattle.explain_command.specs.Laws.Lines.{instance-written}
use Rattle.explain_command.proofs.write_instance.Goals as goal

pub slice_bounds-write-end : goal.slice_bounds-write-end
slice_bounds-write-end c = omega (arith, c.requires, c.instance_width-end.ensures.value)

pub bounds-line-end : goal.bounds-line-end
bounds-line-end c = omega (arith, c.requires, c.instance_width-end.ensures.value)

pub shape_of-line : goal.shape_of-line
shape_of-line c = simp length-set (search rules)

pub returns : goal.returns
returns c =
    instance-written c.args.q _ c.args.line.now _ c.requires c.instance_width-end.ensures.value c.write.ensures
