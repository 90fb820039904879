-- `simulator::turn::length-from` meets its contract.
use borrow.Author.Rules.{rules}
use Rattle.simulator.specs.Engine.{length_from}
use Rattle.simulator.proofs.turn.length_from.Goals as goal

pub returns : goal.returns
unfolding length_from
returns c = search rules
