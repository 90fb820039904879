-- Without faults a schedule is as document 01 has it: no transmission is cut, each sends its instance and ends at its start plus its length.
use Prim.Native.Nat.{ℕ, suc, ◌+◌, ◌<◌}
use Rattle.std.proofs.Math.Path.{◌≡◌, ap}
use Rattle.std.specs.Prelude.{refl, ◌↔◌, Option, Some, None}
use mathlib.Core.List.Memᴰ
use mathlib.Core.List.Memᴰ.{head as here}
use mathlib.Core.List.Memᴰ.{tail as there}
use mathlib.Core.List.{List, [], ◌∷◌, Memᴰ as Mem}
use Rattle.std.proofs.Common.{arith}
use Rattle.bus_model.specs.Bus.{Transmission, one_more, Idle, Next, signalling, free_after, sent_after, Runs, Keeps, Schedule}
use Rattle.bus_model.proofs.Theory.Existence.{never-cut}
use Rattle.bus_model.specs.declared.Frame.{Frame}
use Rattle.bus_model.specs.declared.Faults.TheVariants.{Never}

-- the run of a list that no fault cuts
unfoldable pub PlainRuns : List Frame → (ℕ → ℕ) → ℕ → (ℕ → ℕ) → ℕ → List Transmission → Type 0
PlainRuns fs starts T sent free [] = Idle fs starts sent free T
PlainRuns fs starts T sent free (x ∷ xs) =
    Next fs starts sent free x × (x.fault ≡ None) × (x.start < T) × PlainRuns fs starts T (one_more sent x.frame) (x.start + x.length) xs

module _ (sent : ℕ → ℕ) (x : Transmission) (whole : x.fault ≡ None) where
  sent-whole : sent_after sent x ≡ one_more sent x.frame
  unfolding sent_after
  sent-whole = ap (λ (r : Option ℕ). elim r as (λ _. ℕ → ℕ) [ None ↦ one_more sent x.frame | Some f ↦ sent ]) whole

  free-whole : free_after x ≡ x.start + x.length
  unfolding free_after
  free-whole = ap (λ (r : Option ℕ). elim r as (λ _. ℕ) [ None ↦ x.start + x.length | Some f ↦ suc f + signalling ]) whole

module _ (fs : List Frame) (starts : ℕ → ℕ) (T : ℕ) where
  to-plain : (sent : ℕ → ℕ) (free : ℕ) (xs : List Transmission) → Runs fs starts T sent free xs → ((x : Transmission) → Mem x xs → x.fault ≡ None) → PlainRuns fs starts T sent free xs
  unfolding Runs PlainRuns
  to-plain sent free [] runs none = runs
  to-plain sent free (x ∷ xs) (next, before, runs) none =
      let whole = none x (here refl) in
      let rest = to-plain (sent_after sent x) (free_after x) xs runs (λ y m. none y (there m)) in
      (next, whole, before, rw (sent-whole sent x whole, free-whole sent x whole) at rest)

  of_plain : (sent : ℕ → ℕ) (free : ℕ) (xs : List Transmission) → PlainRuns fs starts T sent free xs → Runs fs starts T sent free xs × ((x : Transmission) → Mem x xs → x.fault ≡ None)
  unfolding Runs PlainRuns
  of_plain sent free [] runs = (runs, λ x m. absurd (Memᴰ.not-nil m))
  of_plain sent free (x ∷ xs) (next, whole, before, runs) =
      let (rest, none) = of_plain (one_more sent x.frame) (x.start + x.length) xs runs in
      ((next, before, rw (sent-whole sent x whole, free-whole sent x whole) rest), cut none whole)
    where
      cut : ((y : Transmission) → Mem y xs → y.fault ≡ None) → x.fault ≡ None → (y : Transmission) → Mem y (x ∷ xs) → y.fault ≡ None
      cut none whole y (here e) = rw e whole
      cut none whole y (there m) = none y m

  -- A schedule without faults is a plain run, and a plain run is one.
  pub never-plain : (xs : List Transmission) → Schedule Never fs starts T xs ↔ PlainRuns fs starts T (λ i. 0) 0 xs
  unfolding Schedule Keeps
  never-plain xs = (
    λ (runs, keeps). to-plain (λ i. 0) 0 xs runs (never-cut {xs = xs} keeps),
    λ runs. let (all, none) = of_plain (λ i. 0) 0 xs runs in (all, λ f (x, m, is). absurd (let z : ◌≡◌ {A = ℕ} 0 1 = cc (none x m) in omega arith)),
  )
