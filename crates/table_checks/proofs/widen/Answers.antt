use mathlib.Core.Path.{refl}
use borrow.Author.Rules.{rules}
use Rattle.arith.specs.Laws.Overwriting.{over-element, over-all}
use Rattle.table_checks.proofs.widen.Goals as goal

pub loop-k-init : goal.loop-k-init
loop-k-init c = (refl, refl)

pub loop-k-preserved : goal.loop-k-preserved
loop-k-preserved c =
    (over-element _ _ _ _ refl _ _ c.loop-k.invariant.0 c.loop-k-test.true (search rules) c.from.ensures, search rules)

pub returns : goal.returns
returns c = over-all _ _ _ _ refl _ c.loop-k.invariant.0 (search rules) c.loop-k-test.false
