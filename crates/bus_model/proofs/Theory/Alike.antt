-- Frames that differ in what the bounds do not read have the same bounds and judgements, and where they are released together the
-- same schedules, under any premise about faults. The bounds read priorities by their order alone, and offsets modulo the period.
use Prim.Native.Nat.{ℕ, suc, ◌+◌, ◌-◌, ◌*◌, ◌≤◌, ◌<◌}
use Rattle.std.proofs.Math.Path.{◌≡◌, refl, sym, ap, fun_ext}
use Rattle.std.proofs.Common.{◌∙◌, inl, inr, arith, eq-or-lt_of_le, leb→le, ltb→lt, lt→ltb}
use mathlib.Core.List.{List, [], ◌∷◌, map, Memᴰ as Mem}
use Rattle.std.specs.Prelude.{Bool, ◌↔◌, ltb, Some, None, is_none}
use Rattle.std.proofs.Math.Bool.{true, false}
use Rattle.std.proofs.Math.Nat.{mod-mod}
use Rattle.std.proofs.Math.Dec.{leb, le→leb}
use Rattle.std.proofs.Math.ListN.{length, length-map, get_or-map}
use Rattle.arith.specs.Lists.{sum, product, greatest, keep, exists, range, combinations}
use Rattle.arith.specs.Least.{least, or_zero}
use Rattle.arith.specs.Releases.{releases_before}
use Rattle.arith.specs.Laws.Tests.{same_test}
use Rattle.arith.specs.Laws.Members.{mem-get_d, get_d-within}
use Rattle.arith.specs.Laws.Maps.{sum-map, greatest-map, lcm_of-map, exists-map, keep-map}
use Rattle.bus_model.specs.Frame.{no_frame, row}
use Rattle.bus_model.specs.Release.{release}
use Rattle.bus_model.specs.Bus.{Transmission, Waiting, Idle, Next, signalling, Runs, sent_after, free_after, Schedule, MeetsClaim}
use Rattle.bus_model.specs.Valid.{ValidFrame, Valid}
use Rattle.bus_model.specs.Pattern.{of_group, hyperperiod}
use Rattle.bus_model.specs.Bounds.{groups, window_limit, is_ahead, is_better, is_below, ahead, better, below, blocking, fault_time, fault_load, phase, is_released_at, alignments, distance, choice_of, or_empty, choices, scenarios, own_group, demand, work_at, group_work, work, window_load, busy_window, delay_load, queueing_delay, own_distance, instance_response, response_time, scenario_response, bound_of, scenario_count}
use Rattle.bus_model.specs.Levels.{fixing_order, fixed_at, fixes, level_bound, level_count}
use Rattle.bus_model.specs.Judgement.{scenario_limit, lacks_window, too_many_scenarios, deepest_level, precise_outcome, crowded_outcome, refined_outcome, windowed_outcome, outcome_of, judge}
use Rattle.bus_model.specs.declared.Frame.{Frame}
use Rattle.bus_model.specs.declared.Faults.{Faults}
use Rattle.bus_model.specs.declared.Faults.TheVariants.{Never, Apart}
use Rattle.bus_model.specs.declared.Choice.{Choice}
use Rattle.bus_model.specs.declared.Choice.TheVariants.{Fixed, Any}

-- the frame with another priority and another offset
abbrev pub recast : (Frame → ℕ) → (Frame → ℕ) → Frame → Frame
recast r o g = record { group = g.group; priority = r g; length = g.length; period = g.period; offset = o g }

-- r keeps the order of the frames' priorities.
abbrev pub KeepsOrder : (Frame → ℕ) → List Frame → Type 0
KeepsOrder r fs = (f g : Frame) → Mem f fs → Mem g fs → (r f ≤ r g) ↔ (f.priority ≤ g.priority)

-- The rows of the frames recast are the rows recast, and so are the frames of a group, with the same hyperperiod.
module _ (r o : Frame → ℕ) (fs : List Frame) where
  pub row-recast : (i : ℕ) → i < length fs → row (map (recast r o) fs) i ≡ recast r o (row fs i)
  row-recast i l = get_d-within (map (recast r o) fs) i no_frame (recast r o no_frame) (rw (length-map fs (recast r o)) l) ∙ get_or-map (recast r o) fs i no_frame

  pub group-recast : (j : ℕ) → of_group (map (recast r o) fs) j ≡ map (recast r o) (of_group fs j)
  unfolding of_group
  group-recast j = keep-map (recast r o) _ _ fs (λ g n. refl)

  pub hyper-recast : (j : ℕ) → hyperperiod (of_group (map (recast r o) fs) j) ≡ hyperperiod (of_group fs j)
  unfolding hyperperiod
  hyper-recast j = rw (group-recast j) (lcm_of-map (recast r o) (λ g. g.period) (of_group fs j))

module _ (r o : Frame → ℕ) (phased : (g : Frame) → phase (recast r o g) ≡ phase g) {fs : List Frame} (keeps : KeepsOrder r fs) {k : Frame} (m : Mem k fs) where
  abbrev h : Frame → Frame
  h = recast r o

  -- ---- frames

  ahead-alike : ahead (map h fs) (h k) ≡ map h (ahead fs k)
  unfolding ahead
  ahead-alike =
      keep-map h (is_ahead k) (is_ahead (h k)) fs (λ g n. let (to, back) = keeps g k n m in
      same_test _ _ (λ t. le→leb _ _ (to (leb→le (r g) (r k) t))) (λ t. le→leb (r g) (r k) (back (leb→le _ _ t))))

  -- Where one frame's priority is less, so is its image's, and the other way round.
  less-alike : (f g : Frame) → Mem f fs → Mem g fs → ltb (r f) (r g) ≡ ltb f.priority g.priority
  less-alike f g n l =
      let (to, back) = keeps g f l n in
      same_test _ _
      (λ t. let late : ¬ (g.priority ≤ f.priority) = λ le. omega (arith, back le, ltb→lt (r f) (r g) t) in lt→ltb f.priority g.priority (omega arith))
      (λ t. let late : ¬ (r g ≤ r f) = λ le. omega (arith, to le, ltb→lt f.priority g.priority t) in lt→ltb (r f) (r g) (omega arith))

  better-alike : better (map h fs) (h k) ≡ map h (better fs k)
  unfolding better
  better-alike = keep-map h (is_better k) (is_better (h k)) fs (λ g n. less-alike g k n m)

  blocking-alike : blocking (map h fs) (h k) ≡ blocking fs k
  unfolding blocking below
  blocking-alike = ap (λ (n : ℕ). n - 1) (ap (greatest (λ g. g.length)) (keep-map h (is_below k) (is_below (h k)) fs (λ g n. less-alike k g m n)) ∙ greatest-map h (λ g. g.length) (keep (is_below k) fs))

  -- ---- alignments

  pub alignments-alike : alignments (map h fs) (h k) ≡ alignments fs k
  unfolding alignments is_released_at
  alignments-alike = fun_ext (λ j.
      rw (ahead-alike, hyper-recast r o fs j, group-recast r o (ahead fs k) j)
      (ap (λ (p : ℕ → Bool). keep p (range 0 (hyperperiod (of_group fs j)))) (fun_ext (λ a. exists-map h (is_released_at a) (of_group (ahead fs k) j) ∙ ap (λ (p : Frame → Bool). exists p (of_group (ahead fs k) j)) (released a)))))
    where
      released : (a : ℕ) → ◌≡◌ {A = Frame → Bool} (λ g. is_released_at a (h g)) (is_released_at a)
      released a = fun_ext (λ g. rw (phased g))

  -- ---- work

  distance-alike : (g : Frame) → distance (h g) ≡ distance g
  unfolding distance
  distance-alike g = fun_ext (λ a. rw (phased g))

  at-alike : (gs : List Frame) (a n : ℕ) → work_at (map h gs) a n ≡ work_at gs a n
  unfolding work_at demand
  at-alike gs a n =
      sum-map h (λ g. demand g a n) gs
      ∙ ap (λ (d : Frame → ℕ → ℕ). sum (λ g. g.length * releases_before (d g a) g.period n) gs) (fun_ext distance-alike)

  group-work-alike : (gs : List Frame) (als : List ℕ) (c : Choice) (n : ℕ) → group_work (map h gs) als c n ≡ group_work gs als c n
  unfolding group_work
  group-work-alike gs als (Fixed a) n = at-alike gs a n
  group-work-alike gs als Any n = ap (λ (f : ℕ → ℕ). greatest f als) (fun_ext (λ a. at-alike gs a n))

  work-alike : (gs : List Frame) (cs : List Choice) (n : ℕ) → work (map h fs) (h k) (map h gs) cs n ≡ work fs k gs cs n
  unfolding work
  work-alike gs cs n = ap (λ (f : ℕ → ℕ). sum f (range 1 groups)) (fun_ext (λ j. rw (alignments-alike, group-recast r o gs j) (group-work-alike (of_group gs j) (alignments fs k j) (choice_of cs j) n)))

  -- ---- faults

  fault-time-alike : fault_time (map h fs) (h k) ≡ fault_time fs k
  unfolding fault_time
  fault-time-alike = ap (λ (n : ℕ). signalling + n) (ap (greatest (λ g. g.length)) ahead-alike ∙ greatest-map h (λ g. g.length) (ahead fs k))

  fault-load-alike : (faults : Faults) → fault_load faults (map h fs) (h k) ≡ fault_load faults fs k
  unfolding fault_load
  fault-load-alike Never = refl
  fault-load-alike (Apart g) = λ i n. releases_before 0 g n * fault-time-alike i

  -- ---- scenarios

  own-distance-alike : own_distance (h k) ≡ own_distance k
  unfolding own_distance
  own-distance-alike = fun_ext (λ cs. ap (λ (d : ℕ → ℕ). elim (choice_of cs k.group) as (λ _. ℕ) [ Fixed a ↦ d a | Any ↦ 0 ]) (distance-alike k))

  choices_alike : choices (map h fs) (h k) ≡ choices fs k
  unfolding choices
  choices_alike = fun_ext (λ b. fun_ext (λ j. by b j))
    where
      by : (b : Bool) (j : ℕ) → choices (map h fs) (h k) b j ≡ choices fs k b j
      by true j = ap (λ (a : ℕ → List ℕ). map Fixed (or_empty (a j))) alignments-alike
      by false j = refl

  scenarios-alike : scenarios (map h fs) (h k) ≡ scenarios fs k
  unfolding scenarios
  scenarios-alike = λ i fixes. combinations (map (λ j. choices_alike i (fixes j) j) (range 1 groups))

  -- The scenario count is the same.
  pub count-alike : scenario_count (map h fs) (h k) ≡ scenario_count fs k
  unfolding scenario_count
  count-alike = λ i. product (λ j. length (or_empty (alignments-alike i j))) (range 1 groups)

  -- So is the deepest level that is looked at.
  deepest-alike : deepest_level (map h fs) (h k) ≡ deepest_level fs k
  unfolding deepest_level level_count fixed_at fixing_order
  deepest-alike = λ i. greatest (λ m. m) (keep (λ m. leb (product (λ j. length (or_empty (alignments-alike i j))) (fixed_at k m)) scenario_limit) (range 0 groups))

  -- ---- windows, delays and responses, under a premise about faults

  module _ (faults : Faults) where
    window-load-alike : window_load faults (map h fs) (h k) ≡ window_load faults fs k
    unfolding window_load
    window-load-alike = fun_ext (λ cs. fun_ext (λ l. rw (blocking-alike, ahead-alike, work-alike (ahead fs k) cs l, fault-load-alike faults)))

    delay-load-alike : delay_load faults (map h fs) (h k) ≡ delay_load faults fs k
    unfolding delay_load
    delay-load-alike = fun_ext (λ cs. fun_ext (λ q. fun_ext (λ w. rw (blocking-alike, better-alike, work-alike (better fs k) cs (suc w), fault-load-alike faults))))

    pub window-alike : busy_window faults (map h fs) (h k) ≡ busy_window faults fs k
    unfolding busy_window
    window-alike = λ i cs. least (λ l. leb (window-load-alike i cs l) l) window_limit 1

    delay-alike : queueing_delay faults (map h fs) (h k) ≡ queueing_delay faults fs k
    unfolding queueing_delay
    delay-alike = λ i cs q. least (λ w. leb (delay-load-alike i cs q w) w) window_limit 0

    pub response-alike : scenario_response faults (map h fs) (h k) ≡ scenario_response faults fs k
    unfolding scenario_response response_time instance_response
    response-alike = λ i cs.
        elim (window-alike i cs) as (λ _. ℕ) [
          | Some l ↦ greatest (λ q. or_zero (delay-alike i cs q) + k.length - (own-distance-alike i cs + q * k.period)) (range 0 (releases_before (own-distance-alike i cs) k.period l))
          | None ↦ 0
        ]

    -- ---- the bounds and the judgement

    -- Every bound is the same.
    pub bound-alike : bound_of faults (map h fs) (h k) ≡ bound_of faults fs k
    unfolding bound_of
    bound-alike = λ i fixes. greatest (response-alike i) (scenarios-alike i fixes)

    -- So is the lack of a window.
    pub lacks-alike : lacks_window faults (map h fs) (h k) ≡ lacks_window faults fs k
    unfolding lacks_window
    lacks-alike = λ i. exists (λ cs. is_none (window-alike i cs)) (scenarios-alike i (own_group k))

    -- So is every level's bound.
    level-alike : level_bound faults (map h fs) (h k) ≡ level_bound faults fs k
    unfolding level_bound fixed_at fixing_order
    level-alike = λ i m. bound-alike i (fixes k m)

    -- So the judgement is the same.
    pub judge-alike : judge faults (map h fs) (h k) ≡ judge faults fs k
    unfolding judge outcome_of windowed_outcome refined_outcome crowded_outcome precise_outcome too_many_scenarios
    judge-alike = fun_ext (λ claim. rw (lacks-alike, bound-alike, count-alike, level-alike, deepest-alike))

-- ---- schedules

-- Two tables whose rows are released together, take as long, and rank in the same order: of the second what the bus rule asks of the first.
record Twin (fs gs : List Frame) : Type 0 where
  size : length fs ≡ length gs
  releases : (i : ℕ) → i < length fs → (starts : ℕ → ℕ) (n : ℕ) → release starts (row fs i) n ≡ release starts (row gs i) n
  lengths : (i : ℕ) → i < length fs → (row fs i).length ≡ (row gs i).length
  order : (i j : ℕ) → i < length fs → j < length fs → (row fs i).priority ≤ (row fs j).priority → (row gs i).priority ≤ (row gs j).priority

module _ {fs gs : List Frame} (twin : Twin fs gs) (starts : ℕ → ℕ) where
  waits_back : (sent : ℕ → ℕ) (t i : ℕ) → Waiting gs starts sent t i → Waiting fs starts sent t i
  unfolding Waiting
  waits_back sent t i (l, late) = let inside : i < length fs = rw twin.size l in (inside, rw (twin.releases i inside starts (sent i)) late)

  idle-twin : (sent : ℕ → ℕ) (free t : ℕ) → Idle fs starts sent free t → Idle gs starts sent free t
  unfolding Idle
  idle-twin sent free t idle u i low high w = idle u i low high (waits_back sent u i w)

  next-twin : (sent : ℕ → ℕ) (free : ℕ) {x : Transmission} → Next fs starts sent free x → Next gs starts sent free x
  unfolding Waiting
  next-twin sent free {x} n =
      let (inside, late) = n.waiting in
      record {
        after = n.after;
        idle = idle-twin sent free _ n.idle;
        waiting = (rw twin.size at inside, rw (twin.releases x.frame inside starts (sent x.frame)) at late);
        oldest = n.oldest;
        best = λ i w. let v = waits_back sent x.start i w in twin.order x.frame i inside v.0 (n.best i v);
        positive = n.positive;
        fits = rw (twin.lengths x.frame inside) at n.fits;
        hit = n.hit;
      }

  runs-twin : (end : ℕ) (sent : ℕ → ℕ) (free : ℕ) (xs : List Transmission) → Runs fs starts end sent free xs → Runs gs starts end sent free xs
  unfolding Runs
  runs-twin end sent free [] idle = idle-twin sent free end idle
  runs-twin end sent free (x ∷ xs) (n, before, more) = (next-twin sent free n, before, runs-twin end (sent_after sent x) (free_after x) xs more)

-- So a row that meets its claim in the second meets it in the first.
meets-twin : {fs gs : List Frame} → Twin fs gs → (faults : Faults) (k claim : ℕ) → k < length fs → MeetsClaim faults gs k claim → MeetsClaim faults fs k claim
unfolding MeetsClaim Schedule
meets-twin twin faults k claim inside meets starts end xs (runs, apart) n = rw (twin.releases k inside starts n) (meets starts end xs (runs-twin twin starts end (λ i. 0) 0 xs runs, apart) n)

module _ (r : Frame → ℕ) {fs : List Frame} (keeps : KeepsOrder r fs) where
  -- the frame with the other priority alone
  abbrev ranked : Frame → Frame
  ranked = recast r (λ g. g.offset)

  pub row-alike : (i : ℕ) → i < length fs → row (map ranked fs) i ≡ ranked (row fs i)
  row-alike = row-recast r (λ g. g.offset) fs

  to-ranked : Twin fs (map ranked fs)
  unfolding release
  to-ranked = record {
    size = sym (length-map fs ranked);
    releases = λ i l starts n. rw (row-alike i l);
    lengths = λ i l. rw (row-alike i l);
    order = λ i j a b le. rw (row-alike i a, row-alike j b) ((keeps (row fs i) (row fs j) (mem-get_d fs i no_frame a) (mem-get_d fs j no_frame b)).1 le);
  }

  of-ranked : Twin (map ranked fs) fs
  unfolding release
  of-ranked = record {
    size = length-map fs ranked;
    releases = λ i l starts n. let a : i < length fs = rw (length-map fs ranked) at l in rw (row-alike i a);
    lengths = λ i l. let a : i < length fs = rw (length-map fs ranked) at l in rw (row-alike i a);
    order = λ i j l l' le.
        let a : i < length fs = rw (length-map fs ranked) at l in
        let b : j < length fs = rw (length-map fs ranked) at l' in
        (keeps (row fs i) (row fs j) (mem-get_d fs i no_frame a) (mem-get_d fs j no_frame b)).0 (rw (row-alike i a, row-alike j b) at le);
  }

  -- The schedules are the same.
  pub schedule-alike : (faults : Faults) (starts : ℕ → ℕ) (end : ℕ) (xs : List Transmission) → Schedule faults (map ranked fs) starts end xs ↔ Schedule faults fs starts end xs
  unfolding Schedule
  schedule-alike faults starts end xs =
      (λ (runs, apart). (runs-twin of-ranked starts end (λ i. 0) 0 xs runs, apart), λ (runs, apart). (runs-twin to-ranked starts end (λ i. 0) 0 xs runs, apart))

  -- So a row meets its claim in one just where it does in the other.
  pub meets-alike : (faults : Faults) (k : ℕ) → k < length fs → (claim : ℕ) → MeetsClaim faults (map ranked fs) k claim ↔ MeetsClaim faults fs k claim
  meets-alike faults k l claim = (meets-twin to-ranked faults k claim l, meets-twin of-ranked faults k claim (rw (length-map fs ranked) l))

-- Numbers that rise with the priorities of a table keep their order.
pub keeps-rising : (r : ℕ → ℕ) {fs : List Frame} → ((f g : Frame) → Mem f fs → Mem g fs → f.priority < g.priority → r f.priority < r g.priority)
    → KeepsOrder (λ g. r g.priority) fs
keeps-rising r rising f g m n = (to, back)
  where
    to : r f.priority ≤ r g.priority → f.priority ≤ g.priority
    to le = let late : ¬ (g.priority < f.priority) = λ less. omega (arith, rising g f n m less) in omega arith

    back : f.priority ≤ g.priority → r f.priority ≤ r g.priority
    back le = elim (eq-or-lt_of_le le) [ inl e ↦ omega (arith, ap r e) | inr less ↦ omega (arith, rising f g m n less) ]

-- ---- late starts

-- the frame if it did not start late
abbrev pub early : Frame → Frame
early = recast (λ g. g.priority) phase

-- It has the same phase,
pub early-phase : (g : Frame) → phase (early g) ≡ phase g
unfolding phase
early-phase g = mod-mod g.offset g.period

-- and the order stays.
pub early-keeps : (fs : List Frame) → KeepsOrder (λ g. g.priority) fs
early-keeps fs f g m n = (λ le. le, λ le. le)

-- So its judgement is the same.
pub judge-early : (faults : Faults) (fs : List Frame) {k : Frame} → Mem k fs → judge faults (map early fs) (early k) ≡ judge faults fs k
judge-early faults fs m = judge-alike (λ g. g.priority) phase early-phase (early-keeps fs) m faults

module _ (fs : List Frame) where
  pub row-early : (i : ℕ) → i < length fs → row (map early fs) i ≡ early (row fs i)
  row-early = row-recast (λ g. g.priority) phase fs

  -- A valid table stays so.
  pub valid-early : Valid fs → Valid (map early fs)
  valid-early valid = record { frame = frame; distinct = distinct }
    where
      inside : {i : ℕ} → i < length (map early fs) → i < length fs
      inside l = rw (length-map fs early) at l

      frame : (i : ℕ) → i < length (map early fs) → ValidFrame (row (map early fs) i)
      frame i l =
          let v = valid.frame i (inside l) in
          rw (row-early i (inside l)) (record { period = v.period; length = v.length; group-low = v.group-low; group-high = v.group-high })

      distinct : (i j : ℕ) → i < length (map early fs) → j < length (map early fs) → (row (map early fs) i).priority ≡ (row (map early fs) j).priority → i ≡ j
      distinct i j l l' e = valid.distinct i j (inside l) (inside l') (rw (row-early i (inside l), row-early j (inside l')) at e)
