-- The alignments of a group repeat after the least common multiple of the periods of its frames ahead, its turn, which may be far
-- shorter than its hyperperiod: from an instant and from the same one a turn later these frames are released at the same distances.
-- So a search need only visit the alignments of the first turn.
use Prim.Native.Nat.{ℕ}
use mathlib.Core.List.{List}
use Rattle.bus_model.specs.Pattern.{of_group, hyperperiod}
use Rattle.bus_model.specs.Bounds.{ahead}
use Rattle.bus_model.specs.declared.Frame.{Frame}

-- after so many ticks the frames ahead of k at group j look the same again
unfoldable pub turn : List Frame → Frame → ℕ → ℕ
turn fs k j = hyperperiod (of_group (ahead fs k) j)
