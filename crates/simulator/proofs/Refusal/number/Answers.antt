-- `simulator::Refusal::number` meets its contract.
use Rattle.simulator.specs.Simulate.{refusal_returns}
use Rattle.simulator.proofs.Refusal.number.Goals as goal

pub returns-in-Table : goal.returns-in-Table
unfolding refusal_returns
returns-in-Table c = rw c.in-Table.is c.number.ensures

pub returns-in-ZeroSeed : goal.returns-in-ZeroSeed
unfolding refusal_returns
returns-in-ZeroSeed c = rw c.in-ZeroSeed.is

pub returns-in-LineCount : goal.returns-in-LineCount
unfolding refusal_returns
returns-in-LineCount c = rw c.in-LineCount.is
