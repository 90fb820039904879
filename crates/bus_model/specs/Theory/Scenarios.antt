-- The scenarios of a bound: what their choices are, and how the bounds compare.
-- To fix the alignments of more groups only lowers windows and bounds; the approximate bound and the precise one are the two ends.
use Rattle.std.specs.Prelude.{ℕ}
use mathlib.Core.List.{List, map}
use Rattle.arith.specs.Lists.{range, combinations}
use Rattle.bus_model.specs.Bounds.{groups, choices, scenarios}
use Rattle.bus_model.specs.declared.Choice.{Choice}

-- the scenarios with one of some choices for each group
abbrev pub scenarios_of : (ℕ → List Choice) → List (List Choice)
scenarios_of lists = combinations (map lists (range 1 groups))
