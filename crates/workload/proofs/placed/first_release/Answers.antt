use Rattle.workload.specs.Placed.{first_release}
use Rattle.workload.proofs.placed.first_release.Goals as goal

pub returns-in-Fixed : goal.returns-in-Fixed
unfolding first_release
returns-in-Fixed c = rw c.in-Fixed.is c.distance_from.ensures.value

pub returns-in-Any : goal.returns-in-Any
unfolding first_release
returns-in-Any c = rw c.in-Any.is
