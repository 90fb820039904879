-- Bounds under faults (document 02, request 9), and a schedule in which a fault costs as much as the bound says.
use Rattle.std.specs.Prelude.{ℕ, zero, suc, ◌+◌, ◌≤◌, ◌<◌, ◌≡◌, refl, Some, None}
use Rattle.std.proofs.Common.{sym, ap, ◌∙◌, arith}
use mathlib.Core.List.Memᴰ.{head as here}
use mathlib.Core.List.Memᴰ.{tail as there}
use mathlib.Core.List.{List, [], ◌∷◌, Memᴰ as Mem}
use Rattle.bus_model.specs.Frame.{row}
use Rattle.bus_model.specs.Release.{release}
use Rattle.bus_model.specs.Bus.{Transmission, Waiting, Idle, Next, free_after, sent_after, Runs, FaultIn, Keeps, Schedule, MeetsClaim}
use Rattle.bus_model.specs.Bounds.{precise_bound, approximate_bound}
use Rattle.bus_model.proofs.Examples.Compute.{everything}
use Rattle.bus_model.proofs.Examples.Errors.{listing}
use Rattle.bus_model.specs.declared.Frame.{Frame}
use Rattle.bus_model.specs.declared.Faults.TheVariants.{Never, Apart}

-- a frame alone, of payload 8 and kind 11; F is 31 + 135
abbrev alone : List Frame
alone = record { group = 1; priority = 1; length = 135; period = 1000; offset = 0 } ∷ []

-- A fault in its last tick sends it again at 166, and it ends at 301. With a gap of 300 a second one could begin before that, and is counted; with 301 none could.
pub own-attempt : (precise_bound (Apart 300) alone (row alone 0) ≡ 467) × (precise_bound (Apart 301) alone (row alone 0) ≡ 301) × (precise_bound Never alone (row alone 0) ≡ 135)
unfolding everything
own-attempt = (refl, refl, refl)

-- its group starts at tick 0; a fault begins in the last tick of its first transmission, after which it goes again
abbrev zeros : ℕ → ℕ
zeros j = 0

abbrev first : Transmission
first = record { frame = 0; instance = 0; start = 0; length = 135; fault = Some 134 }

abbrev again : Transmission
again = record { frame = 0; instance = 0; start = 166; length = 135; fault = None }

-- A transmission of instance 0 that starts when the bus becomes free goes next.
goes : (x : Transmission) → x.frame ≡ 0 → x.instance ≡ 0 → x.length ≡ 135 → ((f : ℕ) → x.fault ≡ Some f → (x.start ≤ f) × (f < x.start + x.length))
    → Next alone zeros (λ i. 0) x.start x
unfolding Waiting Idle release
goes x mine oldest long hit = record {
  after = omega arith;
  idle = λ u i from to ready. omega arith;
  waiting = rw mine (omega arith, omega arith);
  oldest = oldest;
  best = λ i (inside, ready). rw mine (only i inside);
  positive = omega arith;
  fits = rw mine (omega arith);
  hit = hit;
}
  where
    only : (i : ℕ) → i < 1 → (row alone 0).priority ≤ (row alone i).priority
    only zero l = omega arith
    only (suc i) l = omega arith

not_at : {f : ℕ} → None ≡ Some f → ⊥
not_at is = let z : ◌≡◌ {A = ℕ} 0 1 = cc in omega arith

same-tick : {e f : ℕ} → Some e ≡ Some f → e ≡ f
same-tick is = cc

-- The only fault is that of tick 134.
one-fault : (f : ℕ) → FaultIn (first ∷ again ∷ []) f → f ≡ 134
one-fault f (x, there (there x11), is) = elim x11 [ ]
one-fault f (x, here e, is) = same-tick (sym is ∙ ap (λ (y : Transmission). y.fault) e)
one-fault f (x, there (here e), is) = absurd (not_at (sym (ap (λ (y : Transmission). y.fault) e) ∙ is))

scheduled : Schedule (Apart 301) alone zeros 300 (first ∷ again ∷ [])
unfolding Schedule Runs Keeps free_after sent_after Idle
scheduled = (
  (
    goes first refl refl refl (λ f is. (omega arith, omega (arith, same-tick is))),
    omega arith,
    (goes again refl refl refl (λ f is. absurd (not_at is)), omega arith, λ u i from to waits. omega arith),
  ),
  λ e f one other less. absurd (omega (arith, one-fault e one, one-fault f other)),
)

-- So a claim of 300 is missed: it is finished at 301.
pub alone-late : ¬ MeetsClaim (Apart 301) alone 0 300
unfolding MeetsClaim release
alone-late meets =
    let f = meets zeros 300 (first ∷ again ∷ []) scheduled 0 (omega arith) in
    omega (arith, f.ended, ends f.sent f.listed f.whole)
  where
    ends : (x : Transmission) → Mem x (first ∷ again ∷ []) → x.fault ≡ None → 301 ≤ x.start + x.length
    ends x (there (there x10)) whole = elim x10 [ ]
    ends x (here e) whole = absurd (not_at (sym whole ∙ ap (λ (y : Transmission). y.fault) e))
    ends x (there (here e)) whole = rw e (omega arith)

-- the precise bounds of document 01's listing with a gap of 400 ticks
pub listing-400 : (precise_bound (Apart 400) listing (row listing 0) ≡ 601)
    × (precise_bound (Apart 400) listing (row listing 1) ≡ 456)
    × (precise_bound (Apart 400) listing (row listing 2) ≡ 486)
    × (precise_bound (Apart 400) listing (row listing 3) ≡ 722)
unfolding everything
listing-400 = (refl, refl, refl, refl)

-- with a gap of 2000, and the approximate bound of the last
pub listing-2000 : (precise_bound (Apart 2000) listing (row listing 0) ≡ 435)
    × (precise_bound (Apart 2000) listing (row listing 3) ≡ 556)
    × (approximate_bound (Apart 2000) listing (row listing 3) ≡ 556)
unfolding everything
listing-2000 = (refl, refl, refl)
