-- The starts that are drawn, and the engine before the first transmission (document 02, request 12).
use Rattle.std.specs.Prelude.{ℕ, zero, suc, ◌+◌, ◌%◌, Bool, cond, List, map, eqb, length, set, replicate}
use Rattle.arith.specs.Lists.{exists, range}
use Rattle.bus_model.specs.Frame.{row}
use Rattle.bus_model.specs.Pattern.{of_group, hyperperiod}
use Rattle.bus_model.specs.declared.Frame.{Frame}
use Rattle.bus_log.specs.Follow.{start_of}
use Rattle.generator.specs.Draw.{draw_from}
use Rattle.simulator.specs.declared.Engine.{Engine}
use Rattle.simulator.specs.declared.Starts.{Starts}

-- whether group j has frames
unfoldable pub has_frames : List Frame → ℕ → Bool
has_frames fs j = exists (λ i. eqb (row fs i).group j) (range 0 (length fs))

-- group j draws its start, "as v mod hyperperiod", where it has frames
unfoldable pub start_drawn : List Frame → Starts → ℕ → Starts
start_drawn fs d j =
    let v = draw_from d.drawn in
    cond (has_frames fs j) (record { drawn = v; starts = set d.starts j (v % hyperperiod (of_group fs j)) }) d

-- groups 1 to n, rising
unfoldable pub starts_drawn : List Frame → ℕ → ℕ → Starts
starts_drawn fs seed zero = record { drawn = seed; starts = replicate 17 0 }
starts_drawn fs seed (suc n) = start_drawn fs (starts_drawn fs seed n) (suc n)

-- the first release of row i
unfoldable pub first_due : List Frame → Starts → ℕ → ℕ
first_due fs d i = start_of d.starts (row fs i).group + (row fs i).offset

-- the engine before the first transmission
unfoldable pub first_of : List Frame → Starts → Engine
first_of fs d = record { drawn = d.drawn; free = 0; due = map (first_due fs d) (range 0 64) }

-- from a seed
unfoldable pub engine_of : List Frame → ℕ → Engine
engine_of fs seed = first_of fs (starts_drawn fs seed 16)
