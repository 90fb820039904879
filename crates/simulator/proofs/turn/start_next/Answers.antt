-- `simulator::turn::start_next` meets its contract.
use mathlib.Core.Path.{◌∙◌}
use Rattle.simulator.specs.Engine.{start_next}
use Rattle.simulator.proofs.turn.start_next.Goals as goal

pub returns : goal.returns
unfolding start_next
returns c = c.max.ensures ∙ rw c.soonest.ensures.value
