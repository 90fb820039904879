-- Document 01's "Reasoning errors to catch": each of them gives another number than the definition.
-- A bound with the error built in stands beside the right one.
use Rattle.std.specs.Prelude.{ℕ, suc, ◌+◌, ◌-◌, ◌*◌, min, ◌≡◌, refl, List, [], ◌∷◌, Bool, leb, Some, None}
use Rattle.arith.specs.Lists.{greatest, range}
use Rattle.arith.specs.Least.{least, or_zero}
use Rattle.arith.specs.Releases.{releases_before}
use Rattle.bus_model.specs.Frame.{row}
use Rattle.bus_model.specs.Bounds.{window_limit, ahead, better, below, blocking, work, fault_load, window_load, busy_window, delay_load, queueing_delay, own_distance, instance_response, response_time, scenario_response, scenarios, every_group, bound_of, approximate_bound, precise_bound}
use Rattle.bus_model.proofs.Examples.Compute.{everything}
use Rattle.bus_model.specs.declared.Frame.{Frame}
use Rattle.bus_model.specs.declared.Faults.{Faults}
use Rattle.bus_model.specs.declared.Faults.TheVariants.{Never}
use Rattle.bus_model.specs.declared.Choice.{Choice}

-- The bound of frame k, where a worse frame blocks for b ticks, a better one counts if it is released before `reach w`,
-- and of the n instances released in the window `many n` are looked at.
module _ (b : ℕ) (reach many : ℕ → ℕ) (faults : Faults) (fs : List Frame) (k : Frame) where
  unfoldable pub response_by : List Choice → ℕ → ℕ
  response_by cs q =
      or_zero (least (λ w. leb (b + q * k.length + work fs k (better fs k) cs (reach w) + fault_load faults fs k (w + k.length)) w) window_limit 0) + k.length - (own_distance k cs + q * k.period)

  unfoldable pub scenario_by : List Choice → ℕ
  scenario_by cs =
      elim (least (λ l. leb (b + work fs k (ahead fs k) cs l + fault_load faults fs k l) l) window_limit 1) [
        | Some l ↦ greatest (response_by cs) (range 0 (many (releases_before (own_distance k cs) k.period l)))
        | None ↦ 0
      ]

  unfoldable pub bound_by : (ℕ → Bool) → ℕ
  bound_by fixes = greatest scenario_by (scenarios fs k fixes)

-- With nothing changed it is the definition.
pub unchanged : (faults : Faults) (fs : List Frame) (k : Frame) (fixes : ℕ → Bool) → bound_by (blocking fs k) suc (λ n. n) faults fs k fixes ≡ bound_of faults fs k fixes
unfolding bound_by scenario_by response_by bound_of scenario_response busy_window window_load response_time instance_response queueing_delay delay_load
unchanged faults fs k fixes = refl

-- document 01's listing: identifiers 16, 32, 48 and 64, each with the priority that table_checks gives it (524288 times as much)
abbrev pub listing : List Frame
listing =
    record { group = 1; priority = 8_388_608; length = 135; period = 1000; offset = 0 } ∷
    record { group = 1; priority = 16_777_216; length = 55; period = 1000; offset = 200 } ∷
    record { group = 1; priority = 25_165_824; length = 135; period = 1000; offset = 300 } ∷
    record { group = 2; priority = 33_554_432; length = 65; period = 1000; offset = 0 } ∷ []

abbrev frame16 : Frame
frame16 = row listing 0

abbrev frame64 : Frame
frame64 = row listing 3

-- three groups of one frame each; the second instance of the last frame responds later than its first
abbrev pub three : List Frame
three =
    record { group = 1; priority = 1; length = 10; period = 25; offset = 0 } ∷
    record { group = 2; priority = 2; length = 10; period = 35; offset = 0 } ∷
    record { group = 3; priority = 3; length = 10; period = 35; offset = 0 } ∷ []

-- "Counting better frames in 0..w-1": what is queued where the bus becomes free is left out.
abbrev early : ℕ
early = bound_by (blocking listing frame64) (λ w. w) (λ n. n) Never listing frame64 every_group

-- "Looking at q = 1 only".
abbrev first : ℕ
first = bound_by (blocking three (row three 2)) suc (min 1) Never three (row three 2) every_group

-- "Blocking by a whole C".
abbrev whole : ℕ
whole = bound_by (greatest (λ g. g.length) (below listing frame16)) suc (λ n. n) Never listing frame16 every_group

-- "Choosing one best alignment for all L in the rough bound": each other group has one alignment at all L and w, and of these
-- choices the one with the greatest response counts. No single choice gives more.
abbrev one : ℕ
one = bound_by (blocking listing frame64) suc (λ n. n) Never listing frame64 every_group

-- the bound by an error, and the right one
abbrev pub Gives : (wrong right : ℕ) → ℕ → ℕ → Type 0
Gives wrong right m n = (wrong ≡ m) × (right ≡ n)

pub errors-differ : Gives early (precise_bound Never listing frame64) 65 200
    × Gives first (precise_bound Never three (row three 2)) 30 35
    × Gives whole (precise_bound Never listing frame16) 270 269
    × Gives one (approximate_bound Never listing frame64) 200 255
unfolding bound_by scenario_by response_by everything
errors-differ = ((refl, refl), (refl, refl), (refl, refl), (refl, refl))

-- ---- the last tick of a window

-- a group of two frames; the second is queued in the last tick of the first
abbrev pair : List Frame
pair =
    record { group = 1; priority = 1; length = 10; period = 100; offset = 0 } ∷
    record { group = 1; priority = 2; length = 10; period = 100; offset = 9 } ∷ []

-- It waits for a tick. In a window of a tick less it would be missed, and 10 would be the bound.
pub last-tick : precise_bound Never pair (row pair 1) ≡ 11
unfolding everything
last-tick = refl
