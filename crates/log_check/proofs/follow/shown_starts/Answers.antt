use mathlib.Core.Path.{refl, ◌∙◌}
use lib.ListN.{length-set}
use Rattle.bus_log.specs.Follow.{start_shown}
use Rattle.bus_log.proofs.Theory.Filled.{fill_more, fill-all}
use Rattle.log_check.specs.Laws.Loop.{by_place}
use Rattle.log_check.proofs.follow.shown_starts.Goals as goal

pub loop-i-preserved : goal.loop-i-preserved
loop-i-preserved c = let l = c.loop-i in (fill_more _ 16 _ _ refl _ _ l.invariant.0 c.loop-i-test.true c.start_shown.ensures, length-set l.starts _ _ ∙ l.invariant.1, refl)

pub returns : goal.returns
returns c = fill-all _ 16 _ _ refl _ c.loop-i.invariant.0 c.loop-i.auto.i-end c.loop-i-test.false ∙ by_place (start_shown c.args.p)
