use mathlib.Core.Path.{refl}
use native.Mathlib.Omega.{arith}
use borrow.Author.Rules.{rules}
use lib.ListN.{length-take, length-drop}
use Rattle.arith.specs.Laws.Lines.{line-over, lines-over}
use Rattle.decimal.specs.Numbered.{numbered_at}
use Rattle.decimal.specs.Laws.{numbered-lines}
use Rattle.log_command.specs.Command.{starts_text}
use Rattle.log_command.proofs.write_lines.Goals as goal

pub loop-i-init : goal.loop-i-init
loop-i-init c = (refl, refl)

pub write_numbered_line-requires : goal.write_numbered_line-requires
write_numbered_line-requires c =
    simp (length-take, length-drop) (omega (arith, c.loop-i.invariant, c.loop-i-test.true, c.requires))

pub loop-i-preserved : goal.loop-i-preserved
unfolding starts_text numbered_at
loop-i-preserved c = (
  line-over (numbered-lines 11 c.args.starts.now) _ _ _ _ c.loop-i.invariant.0 _ c.loop-i-test.true c.write_numbered_line.ensures,
  search rules,
)

pub returns : goal.returns
unfolding starts_text
returns c = lines-over (numbered-lines 11 c.args.starts.now) _ _ _ _ c.loop-i.invariant.0 c.loop-i.auto.i-end c.loop-i-test.false
