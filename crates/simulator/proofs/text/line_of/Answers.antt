-- `simulator::text::line_of` meets its contract.
use borrow.Author.Rules.{rules}
use Rattle.simulator.specs.Text.{line_of}
use Rattle.simulator.proofs.text.line_of.Goals as goal

pub returns : goal.returns
unfolding line_of
returns c = search rules
