use Prim.Native.Nat.{◌*◌}
use mathlib.Core.Path.{refl, ◌∙◌}
use mathlib.Core.List.{append-nil}
use native.Mathlib.Omega.{arith}
use borrow.Author.Rules.{rules}
use lib.ListN.{length, length-take, length-drop, drop_of_length-le}
use Rattle.arith.specs.Laws.Lines.{line-over, lines-over}
use Rattle.decimal.specs.Numbered.{numbered_at}
use Rattle.decimal.specs.Laws.{numbered-lines}
use Rattle.decimal.proofs.numbered.write_numbered.Goals as goal

pub loop-i-init : goal.loop-i-init
loop-i-init c = (refl, search rules, refl)

pub write_numbered_line-requires : goal.write_numbered_line-requires
write_numbered_line-requires c =
    simp (length-take, length-drop) (omega (arith, c.loop-i.invariant, c.loop-i-test.true, c.requires))

pub loop-i-preserved : goal.loop-i-preserved
unfolding numbered_at
loop-i-preserved c = (
  line-over (numbered-lines 8 c.args.values.now) _ _ _ _ c.loop-i.invariant.0 _ c.loop-i-test.true (rw c.from.ensures at c.write_numbered_line.ensures),
  search rules,
  search rules,
)

pub returns : goal.returns
returns c =
    let values = c.args.values.now in
    lines-over (numbered-lines 8 values) _ _ _ _ c.loop-i.invariant.0 c.loop-i.invariant.1 c.loop-i-test.false
    ∙ rw (drop_of_length-le c.args.out.now {i = 12 * length values} (omega (arith, c.requires))) (append-nil _)
