-- By the choice.
use mathlib.Core.Path.{refl}
use Rattle.bus_model.specs.Theory.Work.{Allows}
use Rattle.greatest_work.proofs.guesses.guessed_choice.Goals as goal

pub returns-in-Fixed : goal.returns-in-Fixed
unfolding Allows
returns-in-Fixed c = record { allows = rw c.in-Fixed.is refl; fixed = (_, refl) }

pub returns-in-Any : goal.returns-in-Any
unfolding Allows
returns-in-Any c = record { allows = rw c.in-Any.is c.guess.ensures; fixed = (_, refl) }
