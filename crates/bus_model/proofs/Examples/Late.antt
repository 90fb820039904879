-- Document 01's listing: frame 64 does not meet a claim of 199, for there is a schedule in which it takes 200 ticks.
-- So `MeetsClaim` is not weaker than it should be here: of no smaller claim could it be proved. And it asks for an instance as
-- soon as the claim has run out: at 200, of a schedule up to 200.
use Rattle.std.specs.Prelude.{ℕ, ◌+◌, ◌≤◌, ◌<◌, ◌≡◌, refl, Bool, cond, T, leb, Option, Some, None}
use Rattle.std.proofs.Common.{ap, arith, le→leb}
use mathlib.Core.List.Memᴰ.{head as here}
use mathlib.Core.List.Memᴰ.{tail as there}
use mathlib.Core.List.{List, [], ◌∷◌, Memᴰ as Mem}
use Rattle.std.proofs.Math.Dec.{leb→le}
use Rattle.arith.specs.Laws.Below.{all_below, below}
use Rattle.arith.specs.Laws.Tests.{cond_yes}
use Rattle.bus_model.specs.Frame.{row}
use Rattle.bus_model.specs.Release.{release}
use Rattle.bus_model.specs.Bus.{Transmission, one_more, Waiting, Idle, Next, free_after, sent_after, Runs, Keeps, Schedule, Finished, MeetsClaim}
use Rattle.bus_model.proofs.Examples.Errors.{listing}
use Rattle.bus_model.specs.declared.Faults.TheVariants.{Never}

-- all groups start at tick 0
abbrev zeros : ℕ → ℕ
zeros j = 0

-- frames 16 and 64 are released at tick 0, and go one after the other
abbrev run : List Transmission
run =
    record { frame = 0; instance = 0; start = 0; length = 135; fault = None } ∷
    record { frame = 3; instance = 0; start = 135; length = 65; fault = None } ∷ []

-- No fault cuts a transmission that has none.
not-cut : {r : Option ℕ} {f : ℕ} → r ≡ None → r ≡ Some f → ⊥
not-cut whole cut = let z : ◌≡◌ {A = ℕ} 0 1 = cc in omega arith

module _ (sent : ℕ → ℕ) (x : Transmission) where
  -- when row i waits for the bus
  abbrev due : ℕ → ℕ
  due i = release zeros (row listing i) (sent i)

  abbrev priority : ℕ → ℕ
  priority i = (row listing i).priority

  -- row i does not wait, or its priority is no better than that of the transmission
  abbrev worse : ℕ → Bool
  worse i = leb (cond (leb (due i) x.start) (priority x.frame) 0) (priority i)

  -- A waiting frame that starts when the bus becomes free goes next, if one computed test finds none better.
  goes : Waiting listing zeros sent x.start x.frame → x.instance ≡ sent x.frame → T (all_below worse 4)
      → x.fault ≡ None → 1 ≤ x.length → x.length ≤ (row listing x.frame).length → Next listing zeros sent x.start x
  unfolding Waiting Idle
  goes waits oldest test whole positive fits = record {
    after = omega arith;
    idle = λ u i from to ready. omega arith;
    waiting = waits;
    oldest = oldest;
    best = λ i (inside, ready). omega (arith, leb→le (cond (leb (due i) x.start) (priority x.frame) 0) (priority i) (below worse 4 test i inside), cond_yes (leb (due i) x.start) (priority x.frame) 0 (le→leb (due i) x.start ready));
    positive = positive;
    fits = fits;
    hit = λ f is. absurd (not-cut whole is);
  }

-- No fault cuts one of its transmissions.
whole : (x : Transmission) → Mem x run → x.fault ≡ None
whole x (there (there x9)) = elim x9 [ ]
whole x (here e) = rw e refl
whole x (there (here e)) = rw e refl

-- It is all that starts before each tick from the second one's start to its end,
runs : (end : ℕ) → 135 < end → end ≤ 200 → Runs listing zeros end (λ i. 0) 0 run
unfolding Runs free_after sent_after Idle Waiting release one_more
runs end started ended = (
  goes (λ i. 0) _ (omega arith, omega arith) refl tt refl (omega arith) (omega arith),
  omega arith,
  (
    goes (one_more (λ i. 0) 0) _ (omega arith, omega arith) refl tt refl (omega arith) (omega arith),
    omega arith,
    λ u i from to waits. omega arith,
  ),
)

-- and so a schedule up to that tick.
scheduled : (end : ℕ) → 135 < end → end ≤ 200 → Schedule Never listing zeros end run
unfolding Schedule Keeps
scheduled end started ended = (runs end started ended, λ t (x, m, is). not-cut (whole x m) is)

-- Frame 64 stands in it once, and ends at 200.
ends : (x : Transmission) → Mem x run → x.frame ≡ 3 → 200 ≤ x.start + x.length
ends x (there (there x10)) same = elim x10 [ ]
ends x (here e) same = absurd (omega (arith, ap (λ (y : Transmission). y.frame) e))
ends x (there (here e)) same = rw e (omega arith)

-- With a claim of 199 it is late where the schedule goes up to 199, its release and the claim.
pub frame-64-late : ¬ MeetsClaim Never listing 3 199
unfolding MeetsClaim release
frame-64-late meets =
    let f = meets zeros 199 run (scheduled 199 (omega arith) (omega arith)) 0 (omega arith) in
    omega (arith, f.ended, ends f.sent f.listed f.frame)

-- With a claim of 200 it must be finished where a schedule goes up to 200 and no further, as this one does.
pub frame-64-due : MeetsClaim Never listing 3 200 → (xs : List Transmission) → Schedule Never listing zeros 200 xs → Finished xs 3 0 200
unfolding MeetsClaim release
frame-64-due meets xs schedule = meets zeros 200 xs schedule 0 (omega arith)

pub frame-64-finished : MeetsClaim Never listing 3 200 → Finished run 3 0 200
frame-64-finished meets = frame-64-due meets run (scheduled 200 (omega arith) (omega arith))
