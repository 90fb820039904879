-- A number that is missing is 0.
use Prim.Native.Nat.{◌+◌}
use mathlib.Core.Path.{◌≡◌, sym, ◌∙◌}
use mathlib.Core.List.{append-nil}
use borrow.Author.Rules.{rules}
use lib.ListN.{get_or}
use native.Mathlib.Omega.{arith}
use Rattle.std.proofs.lemmas.Grind.{common_steps}
use Rattle.std.proofs.lemmas.Option.{gets}
use Rattle.arith.specs.Laws.Overwriting.{over-element, over-all}
use Rattle.test_entries.specs.Laws.{length-from, number-from}
use Rattle.test_entries.proofs.lengths.line.Goals as goal

pub loop-s-preserved : goal.loop-s-preserved
loop-s-preserved c =
    let below = c.loop-s-test.true in
    let is : c.unwrap_or.result ≡ get_or c.args.numbers.now (c.args.from + c.loop-s.s) 0 = grind (arith, common_steps, gets) in
    (over-element _ _ _ _ (length-from _ _) _ _ c.loop-s.invariant.0 below (search rules) (is ∙ sym (number-from _ _ _ below)), search rules)

pub returns : goal.returns
returns c = over-all _ _ _ _ (length-from _ _) _ c.loop-s.invariant.0 c.loop-s.auto.s-end c.loop-s-test.false ∙ append-nil _
