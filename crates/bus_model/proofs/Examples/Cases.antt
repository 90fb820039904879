-- Cases that break a claim, as the definition gives them.
use Rattle.std.specs.Prelude.{ℕ, ◌≡◌, refl, List, [], ◌∷◌, ◌++◌, replicate, Option, Some, None}
use Rattle.bus_model.specs.Frame.{row}
use Rattle.bus_model.specs.Case.{first_case, case_of}
use Rattle.bus_model.specs.Judgement.{judge}
use Rattle.bus_model.proofs.Examples.Compute.{everything}
use Rattle.bus_model.proofs.Examples.Errors.{listing, three}
use Rattle.bus_model.specs.declared.Frame.{Frame}
use Rattle.bus_model.specs.declared.Faults.TheVariants.{Never, Apart}
use Rattle.bus_model.specs.declared.Case.{Case}

-- the alignments of the first groups, those of the others being empty, and the instance
abbrev shows : List ℕ → ℕ → ℕ → Option Case
shows first rest q = Some (record { instance = q; alignments = first ++ replicate rest 0 })

-- Frame 48 of document 01's listing: its group stands where it is released itself.
pub frame48 : first_case Never listing (row listing 2) 198 ≡ shows (300 ∷ []) 15 1
unfolding everything
frame48 = refl

-- Frame 64 with a claim of 199.
pub frame64 : first_case Never listing (row listing 3) 199 ≡ shows (0 ∷ []) 15 1
unfolding everything
frame64 = refl

-- The second instance is the first to exceed.
pub second : first_case Never three (row three 2) 30 ≡ shows [] 16 2
unfolding everything
second = refl

-- two groups of two alignments each
abbrev four : List Frame
four =
    record { group = 1; priority = 1; length = 10; period = 100; offset = 0 } ∷
    record { group = 1; priority = 2; length = 30; period = 100; offset = 50 } ∷
    record { group = 2; priority = 3; length = 20; period = 100; offset = 10 } ∷
    record { group = 2; priority = 4; length = 10; period = 100; offset = 40 } ∷ []

-- The last group changes fastest: alignment 40 of the second group comes before alignment 50 of the first.
pub last-fastest : first_case Never four (row four 3) 15 ≡ shows (0 ∷ 40 ∷ []) 14 1
unfolding everything
last-fastest = refl

-- The first group's second alignment, with the first of the second.
pub next-turn : first_case Never four (row four 3) 35 ≡ shows (50 ∷ 10 ∷ []) 14 1
unfolding everything
next-turn = refl

-- With faults at least 500 ticks apart the sums are greater, and the first to exceed is another.
pub under-faults : (first_case (Apart 500) four (row four 3) 35 ≡ shows (0 ∷ 10 ∷ []) 14 1) × (first_case (Apart 500) four (row four 3) 170 ≡ shows (50 ∷ 40 ∷ []) 14 1)
unfolding everything
under-faults = (refl, refl)

-- A certified frame has none.
pub certified : case_of Never listing (row listing 3) 200 (judge Never listing (row listing 3) 200).outcome ≡ None
unfolding everything
certified = refl
