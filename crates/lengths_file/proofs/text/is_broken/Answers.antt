-- `lengths_file::text::is_broken` meets its contract: the column holds a number, or is broken.
use Rattle.std.specs.Prelude.{ℕ, ◌≡◌, refl, Bool, true, false, not, Option, Some, None}
use Rattle.std.proofs.Common.{ap, ◌∙◌}
use Rattle.std.specs.Option.{is_some}
use Rattle.lengths_file.specs.Lengths.{is_unreadable, is_broken}
use Rattle.lengths_file.proofs.text.is_broken.Goals as goal

none : (o : Option ℕ) (b : Bool) → is_some o ≡ not b → b ≡ is_unreadable o
unfolding is_unreadable
none (Some n) true e = cc
none (Some n) false e = refl
none None true e = refl
none None false e = cc

pub returns : goal.returns
unfolding is_broken
returns c = none _ _ c.is_none.ensures ∙ ap is_unreadable c.column.ensures
