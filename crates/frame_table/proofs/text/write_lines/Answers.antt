use mathlib.Core.Path.{refl}
use native.Mathlib.Omega.{arith}
use borrow.Author.Rules.{rules}
use lib.ListN.{length-take, length-drop}
use Rattle.arith.specs.Laws.Lines.{line-over, lines-over}
use Rattle.frame_table.specs.Laws.Layout.{table-lines}
use Rattle.frame_table.proofs.text.write_lines.Goals as goal

pub loop-i-init : goal.loop-i-init
loop-i-init c = (refl, refl)

pub write_line-requires : goal.write_line-requires
write_line-requires c =
    (search rules, simp (length-take, length-drop) (omega (arith, c.loop-i.invariant, c.loop-i-test.true, c.requires)))

pub loop-i-preserved : goal.loop-i-preserved
loop-i-preserved c =
    let below = c.loop-i-test.true in
    let lines = table-lines c.args.rows.now in (
      line-over lines _ _ _ _ c.loop-i.invariant.0 _ below c.write_line.ensures,
      search rules,
    )

pub returns : goal.returns
returns c =
    let lines = table-lines c.args.rows.now in
    lines-over lines _ _ _ _ c.loop-i.invariant.0 (search rules) c.loop-i-test.false
