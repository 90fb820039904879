-- `simulator::turn::moved_by` meets its contract.
use Rattle.simulator.specs.Engine.{moved_by}
use Rattle.simulator.proofs.turn.moved_by.Goals as goal

pub returns : goal.returns
unfolding moved_by
returns c = rw (c.from.ensures, c.frame-g.ensures)
