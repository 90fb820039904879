-- `generator::step` meets its contract: the definition computes as the code does.
use borrow.Author.Rules.{rules}
use Rattle.generator.specs.Draw.{draw_from, leftward, rightward}
use Rattle.generator.proofs.step.Goals as goal

pub returns : goal.returns
unfolding draw_from leftward rightward
returns c = search rules
