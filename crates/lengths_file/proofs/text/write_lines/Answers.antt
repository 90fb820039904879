use mathlib.Core.Path.{refl}
use native.Mathlib.Omega.{arith}
use borrow.Author.Rules.{rules}
use lib.ListN.{length-take, length-drop}
use Rattle.arith.specs.Laws.Lines.{line-over, lines-over}
use Rattle.lengths_file.specs.Lengths.{text_of}
use Rattle.lengths_file.proofs.Laws.Layout.{lines}
use Rattle.lengths_file.proofs.text.write_lines.Goals as goal

pub loop-k-init : goal.loop-k-init
loop-k-init c = (refl, refl)

pub write_line-requires : goal.write_line-requires
write_line-requires c =
    (search rules, simp (length-take, length-drop) (omega (arith, c.loop-k.invariant, c.loop-k-test.true, c.requires)))

pub loop-k-preserved : goal.loop-k-preserved
loop-k-preserved c =
    let below = c.loop-k-test.true in
    let ls = c.args.lengths in (
      line-over (lines ls) _ _ _ _ c.loop-k.invariant.0 _ below c.write_line.ensures,
      search rules,
    )

pub returns : goal.returns
unfolding text_of
returns c =
    let ls = c.args.lengths in
    lines-over (lines ls) _ _ _ _ c.loop-k.invariant.0 (search rules) c.loop-k-test.false
