-- It is the remainder.
use Rattle.bus_model.specs.Bounds.{phase}
use Rattle.workload.proofs.work.phase_of.Goals as goal

pub returns : goal.returns
unfolding phase
returns c = record { value = c.remainder.ensures.value; small = c.remainder.ensures.small }
