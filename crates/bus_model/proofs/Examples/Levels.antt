-- The levels between the bounds, as the definitions give them.
use Rattle.std.specs.Prelude.{ℕ, ◌≡◌, refl, List, [], ◌∷◌}
use Rattle.bus_model.specs.Frame.{row}
use Rattle.bus_model.specs.Levels.{level_bound, level_count}
use Rattle.bus_model.specs.Judgement.{deepest_level}
use Rattle.bus_model.proofs.Examples.Compute.{everything}
use Rattle.bus_model.specs.declared.Frame.{Frame}
use Rattle.bus_model.specs.declared.Faults.TheVariants.{Never}

-- three groups, the frame in question in the second; were its third group fixed before the first, level 1 would have 38
abbrev five : List Frame
five =
    record { group = 1; priority = 1; length = 8; period = 80; offset = 35 } ∷
    record { group = 3; priority = 2; length = 15; period = 60; offset = 15 } ∷
    record { group = 1; priority = 3; length = 10; period = 80; offset = 60 } ∷
    record { group = 3; priority = 4; length = 12; period = 60; offset = 50 } ∷
    record { group = 2; priority = 5; length = 5; period = 80; offset = 10 } ∷ []

-- the bounds of a frame at levels 0, 1, 2 and the last
abbrev pub Bounded : List Frame → Frame → ℕ → ℕ → ℕ → ℕ → Type 0
Bounded fs k a b c d = (level_bound Never fs k 0 ≡ a) × (level_bound Never fs k 1 ≡ b) × (level_bound Never fs k 2 ≡ c) × (level_bound Never fs k 15 ≡ d)

pub levels-fall : Bounded five (row five 4) 50 42 30 30
unfolding everything
levels-fall = (refl, refl, refl, refl)

-- groups 1 and 3 with 256 alignments, group 4 with 2, none of group 2
abbrev crowd : List Frame
crowd =
    record { group = 1; priority = 1; length = 1; period = 2; offset = 0 } ∷
    record { group = 1; priority = 2; length = 1; period = 510; offset = 1 } ∷
    record { group = 4; priority = 3; length = 1; period = 10; offset = 0 } ∷
    record { group = 4; priority = 4; length = 1; period = 10; offset = 5 } ∷
    record { group = 3; priority = 5; length = 1; period = 2; offset = 0 } ∷
    record { group = 3; priority = 6; length = 1; period = 510; offset = 1 } ∷ []

-- Its last frame's group, the first and the second, which is empty, come to 65536, which is within the limit.
pub deepest : (level_count crowd (row crowd 5) 2 ≡ 65536) × (level_count crowd (row crowd 5) 3 ≡ 131072) × (deepest_level crowd (row crowd 5) ≡ 2)
unfolding everything
deepest = (refl, refl, refl)
