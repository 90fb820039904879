-- Numbers that pass a test, visited one after the other as a least search finds them: arith's `Walk`, from the first one on.
-- Where there are none, 0 is visited.
use Rattle.std.specs.Prelude.{ℕ, List, Bool}
use Rattle.arith.specs.Lists.{exists}
use Rattle.bus_model.specs.Pattern.{of_group}
use Rattle.bus_model.specs.Bounds.{ahead, is_released_at}
use Rattle.bus_model.specs.declared.Frame.{Frame}

-- a is an alignment of group j, if it is below its hyperperiod
abbrev pub is_alignment : List Frame → Frame → ℕ → ℕ → Bool
is_alignment fs k j a = exists (is_released_at a) (of_group (ahead fs k) j)
