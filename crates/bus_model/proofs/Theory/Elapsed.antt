-- Where transmissions have their largest lengths, the time that passes from a tick on is at least what is sent of the releases from there on.
-- So a frame starts no earlier than the work that goes before it allows.
use Prim.Native.Nat.{ℕ, suc, ◌+◌, ◌-◌, ◌*◌, ◌≤◌, ◌<◌}
use Rattle.std.specs.Prelude.{◌≡◌, refl, ◌≢◌, length}
use Rattle.std.proofs.Math.Logic.{inl, inr}
use mathlib.Core.List.Memᴰ.{head as here}
use mathlib.Core.List.Memᴰ.{tail as there}
use mathlib.Core.List.{List, [], ◌∷◌, Memᴰ as Mem}
use Rattle.std.proofs.Common.{le_refl, mul-zero}
use Rattle.std.proofs.Math.Nat.{le_of_suc-le-suc, mul-le-mul_left, mul-suc}
use Rattle.std.proofs.Math.Decide.{dec_lt}
use native.Mathlib.Omega.{arith}
use Rattle.std.proofs.Math.Dec.{T, ltb→lt}
use Rattle.arith.specs.Lists.{sum}
use Rattle.arith.specs.Laws.Releases.{counted}
use Rattle.bus_model.specs.Frame.{row}
use Rattle.bus_model.specs.Valid.{Valid}
use Rattle.bus_model.specs.Release.{release}
use Rattle.bus_model.specs.Bus.{Transmission, one_more, Waiting, Next, free_after, sent_after, Runs, Schedule}
use Rattle.bus_model.specs.Bounds.{is_ahead, is_better, better}
use Rattle.bus_model.specs.Worst.{Longest}
use Rattle.bus_model.proofs.Theory.Rows.{over_rows, sum_rows, rows_none, rows-le, rows-most, rows_split}
use Rattle.bus_model.proofs.Theory.Arrivals.{released_by, arrived}
use Rattle.bus_model.proofs.Theory.BusyWindow.{whole-or-cut, one-more, one-more-same}
use Rattle.bus_model.specs.declared.Frame.{Frame}
use Rattle.bus_model.specs.declared.Faults.{Faults}

-- ---- the state in which a transmission of the list is sent

-- Each transmission is the next one in some state; what holds at first, and of the state after each transmission that is sent, holds in it.
pub record Sending (fs : List Frame) (starts : ℕ → ℕ) (P : (ℕ → ℕ) → ℕ → Type 0) (x : Transmission) : Type 0 where
  pub sent : ℕ → ℕ
  pub free : ℕ
  pub next : Next fs starts sent free x
  pub holds : P sent free

-- It starts when its instance is released, or later.
pub start-after : {fs : List Frame} {starts : ℕ → ℕ} {P : (ℕ → ℕ) → ℕ → Type 0} {x : Transmission} → Sending fs starts P x → release starts (row fs x.frame) x.instance ≤ x.start
unfolding Waiting
start-after found = rw found.next.oldest found.next.waiting.1

module _
    (fs : List Frame) (starts : ℕ → ℕ) (T : ℕ) (P : (ℕ → ℕ) → ℕ → Type 0)
    (step : (sent : ℕ → ℕ) (free : ℕ) (x : Transmission) → Next fs starts sent free x → x.length ≡ (row fs x.frame).length → P sent free
    → P (sent_after sent x) (free_after x))
  where
    pub sent-in : (xs : List Transmission) (sent : ℕ → ℕ) (free : ℕ) → Runs fs starts T sent free xs → Longest fs xs → P sent free
        → {x : Transmission} → Mem x xs → Sending fs starts P x
    unfolding Runs
    sent-in [] sent free runs long p {x = x} x6 = elim x6 [ ]
    sent-in (y ∷ ys) sent free runs long p {x} (here e) = rw e (record { sent = sent; free = free; next = runs.0; holds = p })
    sent-in (y ∷ ys) sent free runs long p (there m) =
        sent-in ys _ _ runs.2 (λ z n. long z (there n)) (step sent free y runs.0 (long y (here refl)) p) m

-- ---- what is sent of the releases from tick t on

module _ {fs : List Frame} (valid : Valid fs) (starts : ℕ → ℕ) (k : ℕ) (t : ℕ) where
  abbrev f : Frame
  f = row fs k

  -- how many instances of row i are released before tick t
  abbrev before : ℕ → ℕ
  before i = released_by starts (row fs i) t

  -- the length of what is sent of row i, of the releases from t on
  abbrev since : (ℕ → ℕ) → ℕ → ℕ
  since sent i = (row fs i).length * (sent i - before i)

  -- what is sent of the rows ahead fits between t and the end of the last transmission
  abbrev Fits : (ℕ → ℕ) → ℕ → Type 0
  Fits sent free = over_rows fs (is_ahead f) (since sent) ≤ free - t

  -- An instance that is not among those released before t is released at t or later.
  not-before : (i m : ℕ) → i < length fs → before i ≤ m → t ≤ release starts (row fs i) m
  unfolding released_by release
  not-before i m l later = let no : ¬ (release starts (row fs i) m < t) = λ early. omega (arith, (counted _ (valid.frame i l).period t m).1 early) in omega arith

  -- A transmission takes as long as it adds.
  fits_more : (sent : ℕ → ℕ) (free : ℕ) (x : Transmission) → Next fs starts sent free x → x.length ≡ (row fs x.frame).length → Fits sent free
      → Fits (one_more sent x.frame) (x.start + x.length)
  unfolding Waiting
  fits_more sent free x next long fits =
      elim (dec_lt (sent i) (before i)) [
        | yes early ↦
            let none : one_more sent i i - before i ≤ sent i - before i = omega (arith, one-more-same sent i) in
            let same = most 0 (omega (arith, mul-le-mul_left (row fs i).length none)) in
            omega (arith, next.after)
        | no late ↦
            let one : one_more sent i i - before i ≡ suc (sent i - before i) = omega (arith, one-more-same sent i) in
            let same = most (row fs i).length (rw one (omega (arith, mul-suc (row fs i).length (sent i - before i)))) in
            omega (arith, next.after, next.waiting.1, not-before i (sent i) inside (omega arith))
      ]
    where
      i : ℕ
      i = x.frame

      inside : i < length fs
      inside = next.waiting.0

      -- no other row adds anything
      other : (j : ℕ) → j ≢ i → since (one_more sent i) j ≤ since sent j
      other j ne = elim (one-more sent i j) [ inl e ↦ rw e.1 (le_refl _) | inr e ↦ absurd (ne (omega arith)) ]

      most : (c : ℕ) → since (one_more sent i) i ≤ c + since sent i → over_rows fs (is_ahead f) (since (one_more sent i)) ≤ c + over_rows fs (is_ahead f) (since sent)
      most c le = rows-most fs (is_ahead f) (since sent) (since (one_more sent i)) i c inside le other

  -- One that is cut adds nothing.
  fits_after : (sent : ℕ → ℕ) (free : ℕ) (x : Transmission) → Next fs starts sent free x → x.length ≡ (row fs x.frame).length → Fits sent free
      → Fits (sent_after sent x) (free_after x)
  unfolding sent_after free_after
  fits_after sent free x next long fits =
      elim (whole-or-cut x.fault) [
        | inl whole ↦ rw whole (fits_more sent free x next long fits)
        | inr (e, cut) ↦ let (from, to) = next.hit e cut in rw cut (omega (arith, next.after))
      ]

  -- At tick 0 nothing is sent.
  fits-first : Fits (λ i. 0) 0
  fits-first = omega (arith, rows_none fs (is_ahead f) (since (λ i. 0)) (λ i. let none : 0 - before i ≡ 0 = omega arith in rw none (mul-zero _)))

  module _ (inside : k < length fs) {x : Transmission} (mine : x.frame ≡ k) where
    -- Where an instance of row k starts, nothing better waits.
    none-waits : (found : Sending fs starts Fits x) (i : ℕ) → i < length fs → T (is_better f (row fs i)) → released_by starts (row fs i) (suc x.start) ≤ found.sent i
    unfolding Waiting released_by release
    none-waits found i l wins =
        let less = ltb→lt (row fs i).priority f.priority wins in
        let no : ¬ (found.sent i < released_by starts (row fs i) (suc x.start)) = λ more.
        let released = (counted _ (valid.frame i l).period (suc x.start) (found.sent i)).0 more in
        omega (arith, rw mine at (found.next.best i (l, le_of_suc-le-suc released))) in
        omega arith

    -- So the instances before it and the better frames released by its start take no more than the time from t on.
    pub elapsed : Sending fs starts Fits x → t ≤ x.start
        → (x.instance - released_by starts f t) * f.length + sum (λ g. g.length * arrived starts g t (suc (x.start - t))) (better fs f) ≤ x.start - t
    unfolding better arrived
    elapsed found late =
        let reach : t + suc (x.start - t) ≡ suc x.start = omega arith in
        let rest = rows-le fs (is_better f) {u = λ i. (row fs i).length * arrived starts (row fs i) t (suc (x.start - t))} {v = since found.sent}
        (λ i l b. rw reach (mul-le-mul_left (row fs i).length (omega (arith, none-waits found i l b)))) in
        let split = rows_split valid inside (since found.sent) in
        let first : x.instance ≡ found.sent k = rw mine at found.next.oldest in
        rw first (omega (arith, sum_rows fs (is_better f) (λ g. g.length * arrived starts g t (suc (x.start - t))), found.holds, found.next.after))

  -- Each transmission of a schedule in which all have their largest lengths has such a state.
  pub sent-fitting : (faults : Faults) (T : ℕ) {xs : List Transmission} → Schedule faults fs starts T xs → Longest fs xs → {x : Transmission} → Mem x xs → Sending fs starts Fits x
  unfolding Schedule
  sent-fitting faults T {xs} (runs, apart) long m = sent-in fs starts T Fits fits_after xs (λ i. 0) 0 runs long fits-first m
