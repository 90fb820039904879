-- The least common multiple of frames' periods, as a loop that goes down through a table finds it.
use Rattle.std.specs.Prelude.{ℕ, List}
use Rattle.bus_model.specs.declared.Frame.{Frame}
use Rattle.bus_model.specs.Pattern.{of_group, hyperperiod}

-- ---- that of group j's frames

abbrev pub hyper_of : ℕ → List Frame → ℕ
hyper_of j gs = hyperperiod (of_group gs j)
