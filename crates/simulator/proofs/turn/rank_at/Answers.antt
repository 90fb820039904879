-- `simulator::turn::rank_at` meets its contract.
use borrow.Author.Tests.{le-leb, lt-leb}
use Rattle.simulator.specs.Engine.{rank_at}
use Rattle.simulator.proofs.turn.rank_at.Goals as goal

pub returns-then-due-i : goal.returns-then-due-i
unfolding rank_at
returns-then-due-i c = rw (le-leb _ _ c.if-due-i.true, ← c.frame.ensures)

pub returns-else-due-i : goal.returns-else-due-i
unfolding rank_at
returns-else-due-i c = rw (lt-leb _ _ c.if-due-i.false)
