-- By the case of the search.
use Rattle.response_time.specs.Load.{base_of}
use Rattle.response_time.proofs.search.base_of.Goals as goal

pub returns-in-Window : goal.returns-in-Window
unfolding base_of
returns-in-Window c = rw c.in-Window.is

pub returns-in-Instance : goal.returns-in-Instance
unfolding base_of
returns-in-Instance c = rw c.in-Instance.is c.with_lengths.ensures
