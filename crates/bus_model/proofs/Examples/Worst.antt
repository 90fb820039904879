-- The last frame's worst case in tables: its row, the starts of the groups, the instance, and the bound that is its response.
use Rattle.std.specs.Prelude.{ℕ, ◌≡◌, refl, List, [], ◌∷◌, ◌++◌, replicate}
use Rattle.bus_model.specs.Frame.{row}
use Rattle.bus_model.specs.Bounds.{precise_bound}
use Rattle.bus_model.specs.Worst.{last_row, worst_starts, worst_instance}
use Rattle.bus_model.proofs.Examples.Compute.{everything}
use Rattle.bus_model.proofs.Examples.Errors.{listing, three}
use Rattle.bus_model.specs.declared.Frame.{Frame}
use Rattle.bus_model.specs.declared.Faults.TheVariants.{Never}

-- two groups: the last frame waits longest for the second frame of group 1, which comes 30 ticks after the group's start
abbrev apart : List Frame
apart =
    record { group = 1; priority = 1; length = 10; period = 100; offset = 0 } ∷
    record { group = 2; priority = 3; length = 5; period = 100; offset = 10 } ∷
    record { group = 1; priority = 2; length = 20; period = 100; offset = 30 } ∷ []

-- one group: the last frame's second instance waits for a frame that is released 20 ticks before
abbrev second : List Frame
second =
    record { group = 1; priority = 1; length = 30; period = 100; offset = 30 } ∷
    record { group = 1; priority = 2; length = 5; period = 50; offset = 0 } ∷ []

-- row k ranks last; the starts of the first groups, those of the others all being `rest`, the instance, and the bound
abbrev pub WorstCase : List Frame → ℕ → List ℕ → ℕ → ℕ → ℕ → ℕ → Type 0
WorstCase fs k starts others rest n bound =
    (last_row fs ≡ k) × (worst_starts fs (row fs k) ≡ starts ++ replicate others rest) × (worst_instance fs (row fs k) ≡ n) × (precise_bound Never fs (row fs k) ≡ bound)

-- document 01's frame 64; a second instance of the window; starts that differ; a second instance of the frame, the first from the meeting tick on
pub worst-cases : WorstCase listing 3 [] 16 0 0 200 × WorstCase three 2 [] 16 0 1 35 × WorstCase apart 1 (0 ∷ 20 ∷ []) 14 30 0 25 × WorstCase second 1 (0 ∷ []) 15 30 1 15
unfolding everything
worst-cases = ((refl, refl, refl, refl), (refl, refl, refl, refl), (refl, refl, refl, refl), (refl, refl, refl, refl))
