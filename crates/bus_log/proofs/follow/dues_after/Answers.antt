use mathlib.Core.Path.{refl, ◌∙◌}
use lib.ListN.{length-set}
use Rattle.bus_log.proofs.Theory.Filled.{fill_more, fill-all}
use Rattle.bus_log.proofs.follow.dues_after.Goals as goal

pub loop-i-preserved : goal.loop-i-preserved
loop-i-preserved c = let l = c.loop-i in (fill_more _ 64 _ _ refl _ _ l.invariant.0 c.loop-i-test.true c.due_after.ensures, length-set l.due _ _ ∙ l.invariant.1, refl)

pub returns : goal.returns
returns c = fill-all _ 64 _ _ refl _ c.loop-i.invariant.0 c.loop-i.auto.i-end c.loop-i-test.false
