-- The bus rule can be followed: whatever the starts, the lengths, T and the ticks in which faults would begin, there is a schedule.
-- So what is proved of all schedules speaks of some, among them those in which every transmission has its largest length.
use Prim.Native.Nat.{ℕ, zero, suc, ◌+◌, ◌≤◌, ◌<◌, max}
use Rattle.std.specs.Prelude.{◌≡◌, refl, ◌⊎◌, Bool, false, T, leb, Option, Some, None}
use mathlib.Core.List.Memᴰ
use mathlib.Core.List.Memᴰ.{head as here}
use mathlib.Core.List.Memᴰ.{tail as there}
use mathlib.Core.List.{List, [], ◌∷◌, Memᴰ as Mem}
use Rattle.std.proofs.Math.Logic.{inl, inr}
use native.Mathlib.Omega.{arith}
use Rattle.std.proofs.Common.{le_refl, le→leb}
use Rattle.std.proofs.Math.Decide.{dec_lt}
use Rattle.std.proofs.Math.Dec.{leb→le}
use Rattle.std.proofs.Math.ListN.{length}
use Rattle.arith.specs.Lists.{keep, range}
use Rattle.arith.specs.Least.{least}
use Rattle.arith.specs.Laws.Least.{least_at}
use Rattle.arith.specs.Laws.Members.{Lowest, lowest, mem-keep, of-keep, mem-range, of_range}
use Rattle.bus_model.specs.Frame.{row}
use Rattle.bus_model.specs.Valid.{Valid}
use Rattle.bus_model.specs.Release.{release}
use Rattle.bus_model.specs.Bus.{Transmission, Waiting, Idle, Next, signalling, free_after, sent_after, Runs, FaultIn, Keeps, Schedule}
use Rattle.bus_model.specs.Worst.{Longest}
use Rattle.bus_model.specs.declared.Frame.{Frame}
use Rattle.bus_model.specs.declared.Faults.{Faults}
use Rattle.bus_model.specs.declared.Faults.TheVariants.{Never, Apart}

-- each transmission has the length that is set for its frame and instance
abbrev pub HasLengths : (ℕ → ℕ → ℕ) → List Transmission → Type 0
HasLengths len xs = (x : Transmission) → Mem x xs → x.length ≡ len x.frame x.instance

-- each is cut in the first of its ticks in which a fault would begin
abbrev pub HasFaults : (ℕ → Bool) → List Transmission → Type 0
HasFaults hits xs = (x : Transmission) → Mem x xs → x.fault ≡ least hits x.length x.start

-- One transmission more keeps what holds of each.
one-more : (P : Transmission → Type 0) {x : Transmission} {xs : List Transmission} → P x → ((y : Transmission) → Mem y xs → P y) → (y : Transmission) → Mem y (x ∷ xs) → P y
one-more P e all y (here same) = rw same e
one-more P e all y (there m) = all y m

-- the ticks in which faults would begin are as the premise says
unfoldable pub Spaced : Faults → (ℕ → Bool) → Type 0
Spaced Never hits = (f : ℕ) → ¬ T (hits f)
Spaced (Apart g) hits = (e f : ℕ) → T (hits e) → T (hits f) → e < f → e + g ≤ f

-- So the faults are.
spaced-keeps : (faults : Faults) (hits : ℕ → Bool) {xs : List Transmission} → Spaced faults hits → HasFaults hits xs → Keeps faults xs
unfolding Spaced Keeps
spaced-keeps faults hits {xs} spaced has = go faults spaced
  where
    hit : (f : ℕ) → FaultIn xs f → T (hits f)
    hit f (x, m, is) = (least_at hits x.length x.start f (rw (has x m) at is)).2

    go : (p : Faults) → Spaced p hits → Keeps p xs
    go Never none = λ f fault. none f (hit f fault)
    go (Apart g) apart = λ e f first second. apart e f (hit e first) (hit f second)

-- Without faults no transmission is cut.
pub never-cut : {xs : List Transmission} → Keeps Never xs → (x : Transmission) → Mem x xs → x.fault ≡ None
unfolding Keeps
never-cut keeps x m = go x.fault refl
  where
    go : (r : Option ℕ) → x.fault ≡ r → r ≡ None
    go None is = refl
    go (Some f) is = absurd (keeps f (x, m, is))

-- The bus becomes free after a transmission starts.
free-later : {fs : List Frame} {starts sent : ℕ → ℕ} {free : ℕ} {x : Transmission} → Next fs starts sent free x → x.start < free_after x
unfolding free_after
free-later {x = x} next = go x.fault next.hit
  where
    go : (r : Option ℕ) → ((f : ℕ) → r ≡ Some f → (x.start ≤ f) × (f < x.start + x.length)) → x.start < elim r as (λ _. ℕ) [ None ↦ x.start + x.length | Some f ↦ suc f + signalling ]
    go None hit = omega (arith, next.positive)
    go (Some f) hit = omega (arith, (hit f refl).0)

module _
    (fs : List Frame) (starts : ℕ → ℕ) (T : ℕ) (len : ℕ → ℕ → ℕ) (hits : ℕ → Bool)
    (some : (i n : ℕ) → i < length fs → 1 ≤ len i n) (fits : (i n : ℕ) → i < length fs → len i n ≤ (row fs i).length)
  where
    -- ---- one transmission

    module _ (sent : ℕ → ℕ) (free : ℕ) where
      -- when row i waits for the bus
      abbrev due : ℕ → ℕ
      due i = release starts (row fs i) (sent i)

      -- the rows that wait at a tick
      abbrev waiting : ℕ → List ℕ
      waiting t = keep (λ i. leb (due i) t) (range 0 (length fs))

      -- a transmission that the bus rule allows next, before T
      record Sent : Type 0 where
        next : Transmission
        rule : Next fs starts sent free next
        before : next.start < T
        long : next.length ≡ len next.frame next.instance
        cut : next.fault ≡ least hits next.length next.start

      -- The best of the waiting rows is sent, as soon as one waits: `first` is the row that does so first.
      best-sent : (first : Lowest due (range 0 (length fs))) → max free (due first.element) < T → Lowest (λ i. (row fs i).priority) (waiting (max free (due first.element))) → Sent
      unfolding Idle Waiting
      best-sent first before best =
          let start = max free (due first.element) in
          let i = best.element in
          let (listed, t) = of-keep _ (range 0 (length fs)) best.listed in
          let (low, high) = of_range 0 (length fs) listed in
          let now = leb→le (due i) start t in
          let inside : i < length fs = omega arith in
          record {
            next = record { frame = i; instance = sent i; start = start; length = len i (sent i); fault = least hits (len i (sent i)) start };
            rule = record {
              after = omega arith;
              idle = λ u j from to (in_table, waits). omega (arith, first.least j (mem-range 0 (length fs) j (omega arith) (omega arith)));
              waiting = (inside, now);
              oldest = refl;
              best = λ j (in_table, waits). best.least j (mem-keep _ (mem-range 0 (length fs) j (omega arith) (omega arith)) (le→leb (due j) start waits));
              positive = some i (sent i) inside;
              fits = fits i (sent i) inside;
              hit = λ f is. let (low, high, t) = least_at hits (len i (sent i)) start f is in (low, high);
            };
            before = before;
            long = refl;
            cut = refl;
          }

      -- Nothing more starts before T, or there is such a transmission.
      step : Idle fs starts sent free T ⊎ Sent
      unfolding Idle Waiting
      step =
          elim (lowest due (range 0 (length fs))) [
            | inl empty ↦ inl (λ u i from to (in_table, waits). empty i (mem-range 0 (length fs) i (omega arith) (omega arith)))
            | inr first ↦ elim (dec_lt (max free (due first.element)) T) [
              | no late ↦ inl (λ u i from to (in_table, waits). omega (arith, first.least i (mem-range 0 (length fs) i (omega arith) (omega arith))))
              | yes before ↦ elim (lowest (λ i. (row fs i).priority) (waiting (max free (due first.element)))) [
                | inl empty ↦ absurd (empty first.element (mem-keep _ first.listed (le→leb (due first.element) (max free (due first.element)) (omega arith))))
                | inr best ↦ inr (best-sent first before best)
              ]
            ]
          ]

    -- ---- all of them

    -- Each takes a tick or more, so as many as there are ticks are enough.
    run : (fuel : ℕ) (sent : ℕ → ℕ) (free : ℕ) → T ≤ free + fuel → (xs : List Transmission) × Runs fs starts T sent free xs × HasLengths len xs × HasFaults hits xs
    unfolding Runs Idle
    run zero sent free enough = ([], λ u i from to waits. omega arith, λ x m. absurd (Memᴰ.not-nil m), λ x m. absurd (Memᴰ.not-nil m))
    run (suc fuel) sent free enough =
        elim (step sent free) [
          | inl idle ↦ ([], idle, λ x m. absurd (Memᴰ.not-nil m), λ x m. absurd (Memᴰ.not-nil m))
          | inr s ↦
              let x = s.next in
              let (xs, runs, long, cut) = run fuel (sent_after sent x) (free_after x) (omega (arith, s.rule.after, free-later s.rule)) in (
                x ∷ xs,
                (s.rule, s.before, runs),
                one-more (λ y. y.length ≡ len y.frame y.instance) s.long long,
                one-more (λ y. y.fault ≡ least hits y.length y.start) s.cut cut,
              )
        ]

-- Whatever lengths the bus rule allows and whatever faults the premise, there is a schedule with these.
pub schedule-exists : (faults : Faults) (fs : List Frame) (starts : ℕ → ℕ) (T : ℕ) (len : ℕ → ℕ → ℕ) (hits : ℕ → Bool)
    → ((i n : ℕ) → i < length fs → (1 ≤ len i n) × (len i n ≤ (row fs i).length)) → Spaced faults hits
    → (xs : List Transmission) × Schedule faults fs starts T xs × HasLengths len xs × HasFaults hits xs
unfolding Schedule
schedule-exists faults fs starts T len hits allowed spaced =
    let (xs, runs, long, cut) = run fs starts T len hits (λ i n l. (allowed i n l).0) (λ i n l. (allowed i n l).1) T (λ i. 0) 0 (omega arith) in
    (xs, (runs, spaced-keeps faults hits spaced cut), long, cut)

-- There is one without faults in which every transmission has its frame's largest length.
pub longest-schedule : {fs : List Frame} → Valid fs → (starts : ℕ → ℕ) (T : ℕ)
    → (xs : List Transmission) × Schedule Never fs starts T xs × Longest fs xs
unfolding Spaced
longest-schedule {fs} valid starts T =
    let (xs, schedule, long, cut) = schedule-exists Never fs starts T (λ i n. (row fs i).length) (λ t. false) (λ i n l. ((valid.frame i l).length, le_refl _)) (λ f t. t) in
    (xs, schedule, long)
