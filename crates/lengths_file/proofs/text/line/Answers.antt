use mathlib.Core.Path.{refl, sym, ◌∙◌}
use mathlib.Core.List.{append-nil}
use borrow.Author.Rules.{rules}
use Rattle.arith.specs.Laws.Overwriting.{over-element, over-all}
use Rattle.lengths_file.proofs.Laws.Reading.{length-numbers, number_at}
use Rattle.lengths_file.proofs.text.line.Goals as goal

pub loop-s-init : goal.loop-s-init
loop-s-init c = (refl, refl)

pub loop-s-preserved : goal.loop-s-preserved
loop-s-preserved c =
    let below = c.loop-s-test.true in
    (over-element _ _ _ _ (length-numbers _ _) _ _ c.loop-s.invariant.0 below (search rules) (c.number.ensures ∙ sym (number_at _ _ _ below)), search rules)

pub returns : goal.returns
returns c = over-all _ _ _ _ (length-numbers _ _) _ c.loop-s.invariant.0 (search rules) c.loop-s-test.false ∙ append-nil _
