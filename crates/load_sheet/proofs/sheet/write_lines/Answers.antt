use Prim.Native.Nat.{max}
use mathlib.Core.Path.{◌≡◌, refl}
use native.Mathlib.Omega.{arith}
use borrow.Author.Rules.{rules}
use lib.ListN.{length-take, length-drop}
use Rattle.load_sheet.proofs.Laws.Lines.{written_none, written-more, written_all}
use Rattle.load_sheet.proofs.sheet.write_lines.Goals as goal

pub loop-i-init : goal.loop-i-init
loop-i-init c = (written_none _ _ _, refl)

pub node_load-load-requires : goal.node_load-load-requires
node_load-load-requires c = c.requires.nodes.each c.loop-i.i c.loop-i-test.true

pub write_line-requires : goal.write_line-requires
write_line-requires c =
    simp (length-take, length-drop) (omega (arith, c.loop-i.invariant.1, c.loop-i-test.true, c.requires.nodes_in_bounds))

pub loop-i-preserved : goal.loop-i-preserved
loop-i-preserved c =
    let greatest : c.max-most.result ≡ max c.loop-i.most c.node_load-load.result.quotient = search rules in
    (written-more _ _ _ c.loop-i.invariant.0 _ _ _ _ c.loop-i-test.true refl c.node_load-load.ensures c.write_line.ensures greatest, search rules)

pub returns : goal.returns
returns c = let answer = written_all _ _ _ c.loop-i.invariant.0 c.loop-i-test.false in record { value = answer.0; out_after = answer.1 }
