-- By the choice of k's own group.
use Rattle.bus_model.specs.Bounds.{own_distance}
use Rattle.response_time.proofs.search.own_distance.Goals as goal

pub returns-in-Fixed : goal.returns-in-Fixed
unfolding own_distance
returns-in-Fixed c = rw (← c.own_choice.ensures, c.in-Fixed.is) c.distance_from.ensures.value

pub returns-in-Any : goal.returns-in-Any
unfolding own_distance
returns-in-Any c = rw (← c.own_choice.ensures, c.in-Any.is)
