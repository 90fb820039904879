-- A label printer that first sends after four periods (document 02, 7). Its group's start and whole offset say when the bus rule
-- releases it; the bounds read what is left of the offset over whole periods.
use Rattle.std.specs.Prelude.{ℕ, zero, suc, ◌+◌, ◌*◌, ◌≤◌, ◌<◌, ◌≡◌, refl, List, [], ◌∷◌}
use mathlib.Core.List.Memᴰ
use Rattle.std.proofs.Common.{arith}
use Rattle.bus_model.specs.Frame.{row}
use Rattle.bus_model.specs.Release.{release}
use Rattle.bus_model.specs.Bus.{Waiting, Idle, Runs, Keeps, Schedule}
use Rattle.bus_model.specs.Bounds.{alignments, precise_bound}
use Rattle.bus_model.proofs.Examples.Compute.{everything}
use Rattle.bus_model.specs.declared.Frame.{Frame}
use Rattle.bus_model.specs.declared.Faults.TheVariants.{Never}

-- the printer is the second frame of its group
abbrev printing : List Frame
printing =
    record { group = 1; priority = 1; length = 100; period = 1000; offset = 4000 } ∷
    record { group = 1; priority = 2; length = 50; period = 1000; offset = 4300 } ∷ []

abbrev zeros : ℕ → ℕ
zeros j = 0

-- The bus rule reads the whole offset: the printer is first released 4300 ticks after its group's start,
pub released-late : (starts : ℕ → ℕ) → release starts (row printing 1) 0 ≡ starts 1 + 4300
unfolding release
released-late starts = omega arith

-- and the bus is silent until the first of the two is released, and no longer.
pub silent : Schedule Never printing zeros 4000 []
unfolding Schedule Runs Keeps Idle Waiting release
silent = (λ u i from to (inside, waits). below u i to inside waits, λ f (x, m, is). Memᴰ.not-nil m)
  where
    below : (u i : ℕ) → u < 4000 → i < 2 → zeros (row printing i).group + (row printing i).offset + 0 * (row printing i).period ≤ u → ⊥
    below u zero to l w = omega arith
    below u (suc zero) to l w = omega arith
    below u (suc (suc i)) to l w = omega arith

pub silent-no-longer : ¬ Schedule Never printing zeros 4001 []
unfolding Schedule Runs Idle Waiting release
silent-no-longer s = s.0 4000 0 (omega arith) (omega arith) (omega arith, omega arith)

-- The bounds read 0 and 300: these are the group's alignments, and the printer never waits for the other frame.
pub read-early : (alignments printing (row printing 1) 1 ≡ 0 ∷ 300 ∷ []) × (precise_bound Never printing (row printing 1) ≡ 50)
unfolding everything
read-early = (refl, refl)
