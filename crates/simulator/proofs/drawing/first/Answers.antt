-- `simulator::drawing::first` meets its contract.
use Rattle.simulator.specs.Starts.{first_of}
use Rattle.simulator.proofs.drawing.first.Goals as goal

pub returns : goal.returns
unfolding first_of
returns c = rw c.first_dues.ensures
