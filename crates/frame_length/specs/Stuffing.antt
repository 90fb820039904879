-- Bit stuffing (ISO 11898-1, "bit stuffing"): after five equal bits, stuff bits counted, an opposite bit follows.
use Rattle.std.specs.Prelude.{ℕ, ◌+◌, Bool, true, false, cond, not, List, [], ◌∷◌, eqb}
use Rattle.std.specs.Bool.{beq}
use Rattle.frame_length.specs.DataFrame.{dominant}

-- how many equal bits end with b, where so many equal to `last` stand before it
abbrev pub run_with : Bool → ℕ → Bool → ℕ
run_with last run b = cond (beq b last) (run + 1) 1

-- the bits with their stuff bits, where so many bits equal to `last` stand before them
unfoldable pub stuff_from : Bool → ℕ → List Bool → List Bool
stuff_from last run [] = []
stuff_from last run (b ∷ bs) =
    b ∷ elim (eqb (run_with last run b) 5) [
      | true ↦ not b ∷ stuff_from (not b) 1 bs
      | false ↦ stuff_from b (run_with last run b) bs
    ]

-- nothing stands before the first bit
unfoldable pub stuff : List Bool → List Bool
stuff bs = stuff_from dominant 0 bs
