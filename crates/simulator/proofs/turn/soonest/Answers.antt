use mathlib.Core.Path.{refl, sym, ◌∙◌}
use borrow.Author.Rules.{rules}
use Rattle.bus_log.specs.Follow.{due_of}
use Rattle.simulator.proofs.Theory.Lowest.{lowest-more}
use Rattle.simulator.specs.Engine.{lowest_of}
use Rattle.simulator.proofs.turn.soonest.Goals as goal

pub loop-i-init : goal.loop-i-init
unfolding lowest_of
loop-i-init c = (refl, search rules)

pub loop-i-preserved : goal.loop-i-preserved
loop-i-preserved c = let l = c.loop-i in let key = due_of c.args.due in (c.sooner-k.ensures.value ∙ rw l.invariant.0 (sym (lowest-more key l.i)), search rules)
