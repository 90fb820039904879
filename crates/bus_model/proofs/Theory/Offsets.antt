-- The bounds and the judgement with another reading of offsets in place of `phase`: Bounds and Judgement as they stand, but for that.
-- Two readings that agree on the frames of a table give the same. So where no frame begins late, the answers are those of document 01,
-- whose bounds read the offset itself.
use Prim.Native.Nat.{ℕ, suc, ◌+◌, ◌-◌, ◌*◌, ◌%◌, ◌<◌}
use Rattle.std.specs.Prelude.{◌≡◌, Bool, cond, ◌&&◌, ◌||◌, ◌↔◌, ltb, eqb, Option, Some, None, is_none}
use Rattle.std.proofs.Math.Path.{refl, ap, fun_ext}
use Rattle.std.proofs.Common.{sym, ap₂, ◌∙◌}
use mathlib.Core.List.Memᴰ.{head as here}
use mathlib.Core.List.Memᴰ.{tail as there}
use mathlib.Core.List.{List, [], ◌∷◌, map, map-id, Memᴰ as Mem}
use Rattle.std.proofs.Math.Bool.{true, false}
use Rattle.std.proofs.Math.Dec.{leb}
use Rattle.std.proofs.Math.ListN.{length}
use Rattle.std.proofs.lemmas.List.{length-map}
use Rattle.arith.specs.Lists.{sum, product, greatest, keep, exists, range, combinations}
use Rattle.arith.specs.Least.{least, or_zero}
use Rattle.arith.specs.Releases.{releases_before}
use Rattle.arith.specs.Laws.Members.{mem-get_d, place_of, map_same}
use Rattle.arith.specs.Laws.Sums.{sum_same}
use Rattle.bus_model.specs.Frame.{no_frame, row}
use Rattle.bus_model.specs.Bus.{Transmission, Schedule}
use Rattle.bus_model.specs.Valid.{Valid, Early}
use Rattle.bus_model.specs.Pattern.{of_group, hyperperiod}
use Rattle.bus_model.specs.Bounds.{groups, window_limit, ahead, better, blocking, fault_load, phase, is_released_at, alignments, distance, choice_of, or_empty, choices, scenarios, own_group, every_group, demand, work_at, group_work, work, window_load, busy_window, delay_load, queueing_delay, own_distance, instance_response, response_time, scenario_response, bound_of, scenario_count}
use Rattle.bus_model.specs.Levels.{fixed_at, fixes, level_bound, level_count}
use Rattle.bus_model.specs.Judgement.{scenario_limit, lacks_window, too_many_scenarios, deepest_level, precise_outcome, crowded_outcome, refined_outcome, windowed_outcome, outcome_of, bound_used, margin_of, judge}
use Rattle.bus_model.proofs.Theory.Frames.{phase-fits, phase-offset, better-ahead, of-ahead, of-group}
use Rattle.bus_model.proofs.Theory.Alike.{early, row-early, judge-early}
use Rattle.bus_model.specs.declared.Frame.{Frame}
use Rattle.bus_model.specs.declared.Faults.{Faults}
use Rattle.bus_model.specs.declared.Choice.{Choice}
use Rattle.bus_model.specs.declared.Choice.TheVariants.{Fixed, Any}
use Rattle.bus_model.specs.declared.Outcome.{Outcome}
use Rattle.bus_model.specs.declared.Outcome.TheVariants.{CertifiedApproximate, CertifiedPrecise, ClaimTooSmall, CertifiedLevel, Undecided, NoWindow}
use Rattle.bus_model.specs.declared.Judgement.{Judgement}

-- ---- with o in place of `phase`

module _ (o : Frame → ℕ) where
  unfoldable pub is_released_with : ℕ → Frame → Bool
  is_released_with a g = leb (o g) a && eqb ((a - o g) % g.period) 0

  unfoldable pub alignments_with : List Frame → Frame → ℕ → List ℕ
  alignments_with fs k j = keep (λ a. exists (is_released_with a) (of_group (ahead fs k) j)) (range 0 (hyperperiod (of_group fs j)))

  unfoldable pub distance_with : Frame → ℕ → ℕ
  distance_with g a = (o g + (g.period - a % g.period)) % g.period

  unfoldable pub choices_with : List Frame → Frame → Bool → ℕ → List Choice
  choices_with fs k true j = map Fixed (or_empty (alignments_with fs k j))
  choices_with fs k false j = Any ∷ []

  unfoldable pub scenarios_with : List Frame → Frame → (ℕ → Bool) → List (List Choice)
  scenarios_with fs k fixes = combinations (map (λ j. choices_with fs k (fixes j) j) (range 1 groups))

  unfoldable pub demand_with : Frame → ℕ → ℕ → ℕ
  demand_with g a n = g.length * releases_before (distance_with g a) g.period n

  unfoldable pub work_at_with : List Frame → ℕ → ℕ → ℕ
  work_at_with gs a n = sum (λ g. demand_with g a n) gs

  unfoldable pub group_work_with : List Frame → List ℕ → Choice → ℕ → ℕ
  group_work_with gs als (Fixed a) n = work_at_with gs a n
  group_work_with gs als Any n = greatest (λ a. work_at_with gs a n) als

  unfoldable pub work_with : List Frame → Frame → List Frame → List Choice → ℕ → ℕ
  work_with fs k gs cs n = sum (λ j. group_work_with (of_group gs j) (alignments_with fs k j) (choice_of cs j) n) (range 1 groups)

  unfoldable pub own_distance_with : Frame → List Choice → ℕ
  own_distance_with k cs = elim (choice_of cs k.group) [ Fixed a ↦ distance_with k a | Any ↦ 0 ]

  unfoldable pub scenario_count_with : List Frame → Frame → ℕ
  scenario_count_with fs k = product (λ j. length (or_empty (alignments_with fs k j))) (range 1 groups)

  unfoldable pub level_count_with : List Frame → Frame → ℕ → ℕ
  level_count_with fs k m = product (λ j. length (or_empty (alignments_with fs k j))) (fixed_at k m)

  unfoldable pub deepest_level_with : List Frame → Frame → ℕ
  deepest_level_with fs k = greatest (λ m. m) (keep (λ m. leb (level_count_with fs k m) scenario_limit) (range 0 groups))

  unfoldable pub too_many_with : List Frame → Frame → Bool
  too_many_with fs k = ltb scenario_limit (scenario_count_with fs k)

  -- under a premise about faults
  module _ (faults : Faults) where
    unfoldable pub window_load_with : List Frame → Frame → List Choice → ℕ → ℕ
    window_load_with fs k cs l = blocking fs k + work_with fs k (ahead fs k) cs l + fault_load faults fs k l

    unfoldable pub busy_window_with : List Frame → Frame → List Choice → Option ℕ
    busy_window_with fs k cs = least (λ l. leb (window_load_with fs k cs l) l) window_limit 1

    unfoldable pub delay_load_with : List Frame → Frame → List Choice → ℕ → ℕ → ℕ
    delay_load_with fs k cs q w = blocking fs k + q * k.length + work_with fs k (better fs k) cs (suc w) + fault_load faults fs k (w + k.length)

    unfoldable pub queueing_delay_with : List Frame → Frame → List Choice → ℕ → Option ℕ
    queueing_delay_with fs k cs q = least (λ w. leb (delay_load_with fs k cs q w) w) window_limit 0

    unfoldable pub instance_response_with : List Frame → Frame → List Choice → ℕ → ℕ
    instance_response_with fs k cs q = or_zero (queueing_delay_with fs k cs q) + k.length - (own_distance_with k cs + q * k.period)

    unfoldable pub response_time_with : List Frame → Frame → List Choice → ℕ → ℕ
    response_time_with fs k cs l = greatest (instance_response_with fs k cs) (range 0 (releases_before (own_distance_with k cs) k.period l))

    unfoldable pub scenario_response_with : List Frame → Frame → List Choice → ℕ
    scenario_response_with fs k cs = elim (busy_window_with fs k cs) [ Some l ↦ response_time_with fs k cs l | None ↦ 0 ]

    unfoldable pub bound_with : List Frame → Frame → (ℕ → Bool) → ℕ
    bound_with fs k fixes = greatest (scenario_response_with fs k) (scenarios_with fs k fixes)

    unfoldable pub lacks_window_with : List Frame → Frame → Bool
    lacks_window_with fs k = exists (λ cs. is_none (busy_window_with fs k cs)) (scenarios_with fs k (own_group k))

    unfoldable pub precise_outcome_with : List Frame → Frame → ℕ → Outcome
    precise_outcome_with fs k claim = let b = bound_with fs k every_group in cond (leb b claim) (CertifiedPrecise b) (ClaimTooSmall b)

    unfoldable pub crowded_outcome_with : List Frame → Frame → ℕ → ℕ → Outcome
    crowded_outcome_with fs k claim b = let c = bound_with fs k (fixes k (deepest_level_with fs k)) in cond (leb c claim) (CertifiedLevel c) (Undecided b)

    unfoldable pub refined_outcome_with : List Frame → Frame → ℕ → ℕ → Outcome
    refined_outcome_with fs k claim b = cond (too_many_with fs k) (crowded_outcome_with fs k claim b) (precise_outcome_with fs k claim)

    unfoldable pub windowed_outcome_with : List Frame → Frame → ℕ → Outcome
    windowed_outcome_with fs k claim = let b = bound_with fs k (own_group k) in cond (leb b claim) (CertifiedApproximate b) (refined_outcome_with fs k claim b)

    unfoldable pub outcome_with : List Frame → Frame → ℕ → Outcome
    outcome_with fs k claim = cond (lacks_window_with fs k) NoWindow (windowed_outcome_with fs k claim)

    unfoldable pub judge_with : List Frame → Frame → ℕ → Judgement
    judge_with fs k claim = let u = outcome_with fs k claim in record { outcome = u; bound = bound_used u; margin = margin_of claim u }

-- ---- with `phase` they are the definitions

-- what `refl` sees through
unfoldable readings : ℕ
unfolding is_released_with alignments_with distance_with choices_with scenarios_with demand_with work_at_with group_work_with work_with window_load_with busy_window_with delay_load_with queueing_delay_with own_distance_with instance_response_with response_time_with scenario_response_with bound_with scenario_count_with level_count_with deepest_level_with lacks_window_with too_many_with precise_outcome_with crowded_outcome_with refined_outcome_with windowed_outcome_with outcome_with judge_with is_released_at alignments distance choices scenarios demand work_at group_work work window_load busy_window delay_load queueing_delay own_distance instance_response response_time scenario_response bound_of scenario_count level_bound level_count deepest_level lacks_window too_many_scenarios precise_outcome crowded_outcome refined_outcome windowed_outcome outcome_of judge
readings = 0

module _ (fs : List Frame) (k : Frame) where
  pub count-with-phase : scenario_count_with phase fs k ≡ scenario_count fs k
  unfolding readings
  count-with-phase = refl

  pub bound-with-phase : (faults : Faults) → bound_with phase faults fs k ≡ bound_of faults fs k
  unfolding readings
  bound-with-phase faults = refl

  pub lacks-with-phase : (faults : Faults) → lacks_window_with phase faults fs k ≡ lacks_window faults fs k
  unfolding readings
  lacks-with-phase faults = refl

  pub judge-with-phase : (faults : Faults) → judge_with phase faults fs k ≡ judge faults fs k
  unfolding readings
  judge-with-phase faults = refl

-- ---- two readings that agree on the frames of the table give the same

exists-same : {A : Type 0} {p q : A → Bool} (xs : List A) → ((x : A) → Mem x xs → p x ≡ q x) → exists p xs ≡ exists q xs
unfolding exists
exists-same [] same = refl
exists-same (x ∷ xs) same = ap₂ (λ (b c : Bool). b || c) (same x (here refl)) (exists-same xs (λ y m. same y (there m)))

module _ (o u : Frame → ℕ) {fs : List Frame} (agree : (g : Frame) → Mem g fs → o g ≡ u g) {k : Frame} (m : Mem k fs) where
  alignments-agree : alignments_with o fs k ≡ alignments_with u fs k
  unfolding alignments_with is_released_with
  alignments-agree = fun_ext (λ j.
      ap (λ (p : ℕ → Bool). keep p (range 0 (hyperperiod (of_group fs j))))
      (fun_ext (λ a. exists-same (of_group (ahead fs k) j) (λ g n. rw (agree g (of-ahead fs k (of-group (ahead fs k) j n).0))))))

  distance-agree : (g : Frame) → Mem g fs → distance_with o g ≡ distance_with u g
  unfolding distance_with
  distance-agree g n = fun_ext (λ a. rw (agree g n))

  at_agree : (gs : List Frame) → ((g : Frame) → Mem g gs → Mem g fs) → (a n : ℕ) → work_at_with o gs a n ≡ work_at_with u gs a n
  unfolding work_at_with demand_with
  at_agree gs all a n = sum_same gs (λ g l. ap (λ (d : ℕ → ℕ). g.length * releases_before (d a) g.period n) (distance-agree g (all g l)))

  group-work-agree : (gs : List Frame) → ((g : Frame) → Mem g gs → Mem g fs) → (als : List ℕ) (c : Choice) (n : ℕ) → group_work_with o gs als c n ≡ group_work_with u gs als c n
  unfolding group_work_with
  group-work-agree gs all als (Fixed a) n = at_agree gs all a n
  group-work-agree gs all als Any n = ap (λ (f : ℕ → ℕ). greatest f als) (fun_ext (λ a. at_agree gs all a n))

  work-agree : (gs : List Frame) → ((g : Frame) → Mem g gs → Mem g fs) → (cs : List Choice) (n : ℕ) → work_with o fs k gs cs n ≡ work_with u fs k gs cs n
  unfolding work_with
  work-agree gs all cs n =
      ap (λ (f : ℕ → ℕ). sum f (range 1 groups))
      (fun_ext (λ j. rw alignments-agree (group-work-agree (of_group gs j) (λ g l. all g (of-group gs j l).0) (alignments_with u fs k j) (choice_of cs j) n)))

  own-agree : own_distance_with o k ≡ own_distance_with u k
  unfolding own_distance_with
  own-agree = λ i cs. elim (choice_of cs k.group) as (λ _. ℕ) [ Fixed a ↦ distance-agree k m i a | Any ↦ 0 ]

  choices-agree : choices_with o fs k ≡ choices_with u fs k
  unfolding choices_with
  choices-agree = fun_ext (λ b. fun_ext (λ j. by b j))
    where
      by : (b : Bool) (j : ℕ) → choices_with o fs k b j ≡ choices_with u fs k b j
      by true j = ap (λ (a : ℕ → List ℕ). map Fixed (or_empty (a j))) alignments-agree
      by false j = refl

  scenarios-agree : scenarios_with o fs k ≡ scenarios_with u fs k
  unfolding scenarios_with
  scenarios-agree = λ i fixes. combinations (map (λ j. choices-agree i (fixes j) j) (range 1 groups))

  count-agree : scenario_count_with o fs k ≡ scenario_count_with u fs k
  unfolding scenario_count_with
  count-agree = λ i. product (λ j. length (or_empty (alignments-agree i j))) (range 1 groups)

  deepest-agree : deepest_level_with o fs k ≡ deepest_level_with u fs k
  unfolding deepest_level_with level_count_with
  deepest-agree = λ i. greatest (λ m. m) (keep (λ m. leb (product (λ j. length (or_empty (alignments-agree i j))) (fixed_at k m)) scenario_limit) (range 0 groups))

  module _ (faults : Faults) where
    window-agree : busy_window_with o faults fs k ≡ busy_window_with u faults fs k
    unfolding busy_window_with window_load_with
    window-agree = λ i cs. least (λ l. leb (blocking fs k + work-agree (ahead fs k) (λ g n. of-ahead fs k n) cs l i + fault_load faults fs k l) l) window_limit 1

    delay-agree : queueing_delay_with o faults fs k ≡ queueing_delay_with u faults fs k
    unfolding queueing_delay_with delay_load_with
    delay-agree = λ i cs q.
        least (λ w. leb (blocking fs k + q * k.length + work-agree (better fs k) (λ g n. of-ahead fs k (better-ahead fs k g n)) cs (suc w) i + fault_load faults fs k (w + k.length)) w) window_limit 0

    response-agree : scenario_response_with o faults fs k ≡ scenario_response_with u faults fs k
    unfolding scenario_response_with response_time_with instance_response_with
    response-agree = λ i cs.
        elim (window-agree i cs) as (λ _. ℕ) [
          | Some l ↦ greatest (λ q. or_zero (delay-agree i cs q) + k.length - (own-agree i cs + q * k.period)) (range 0 (releases_before (own-agree i cs) k.period l))
          | None ↦ 0
        ]

    bound-agree : bound_with o faults fs k ≡ bound_with u faults fs k
    unfolding bound_with
    bound-agree = λ i fixes. greatest (response-agree i) (scenarios-agree i fixes)

    lacks-agree : lacks_window_with o faults fs k ≡ lacks_window_with u faults fs k
    unfolding lacks_window_with
    lacks-agree = λ i. exists (λ cs. is_none (window-agree i cs)) (scenarios-agree i (own_group k))

    judge-agree : judge_with o faults fs k ≡ judge_with u faults fs k
    unfolding judge_with outcome_with windowed_outcome_with refined_outcome_with crowded_outcome_with precise_outcome_with too_many_with
    judge-agree = fun_ext (λ claim. rw (lacks-agree, bound-agree, count-agree, deepest-agree))

-- ---- frames that do not begin late

-- the offset itself, as document 01's bounds read it
abbrev pub offset_of : Frame → ℕ
offset_of g = g.offset

module _ (fs : List Frame) (before : Early fs) where
  agreed : (g : Frame) → Mem g fs → offset_of g ≡ phase g
  agreed g m = let (i, l, is) = place_of no_frame m in sym (phase-offset g (rw is at (before i l)))

  module _ {k : Frame} (m : Mem k fs) where
    -- Every bound is that with the offset,
    pub bound-kept : (faults : Faults) → bound_of faults fs k ≡ bound_with offset_of faults fs k
    bound-kept faults = sym (bound-agree offset_of phase agreed m faults ∙ bound-with-phase fs k faults)

    -- so is the lack of a window,
    pub lacks-kept : (faults : Faults) → lacks_window faults fs k ≡ lacks_window_with offset_of faults fs k
    lacks-kept faults = sym (lacks-agree offset_of phase agreed m faults ∙ lacks-with-phase fs k faults)

    -- the scenario count,
    pub count_kept : scenario_count fs k ≡ scenario_count_with offset_of fs k
    count_kept = sym (count-agree offset_of phase agreed m ∙ count-with-phase fs k)

    -- and the judgement of every claim.
    pub judge-kept : (faults : Faults) → judge faults fs k ≡ judge_with offset_of faults fs k
    judge-kept faults = sym (judge-agree offset_of phase agreed m faults ∙ judge-with-phase fs k faults)

  -- Taken modulo the period each offset is what it was,
  pub early-same : map early fs ≡ fs
  early-same = map_same fs (λ g m. ap (λ (a : ℕ). record { group = g.group; priority = g.priority; length = g.length; period = g.period; offset = a }) (sym (agreed g m))) ∙ map-id fs

  -- so that the schedules are the same, whichever of the two the bus rule read.
  pub schedules-kept : (faults : Faults) (starts : ℕ → ℕ) (T : ℕ) (xs : List Transmission) → Schedule faults fs starts T xs ↔ Schedule faults (map early fs) starts T xs
  schedules-kept faults starts T xs = rw early-same (λ s. s, λ s. s)

-- In any valid table a row's judgement is that with the offset, of the table whose offsets are taken modulo their periods.
pub judge-late : (faults : Faults) {fs : List Frame} → Valid fs → (k : ℕ) → k < length fs → judge faults fs (row fs k) ≡ judge_with offset_of faults (map early fs) (row (map early fs) k)
judge-late faults {fs} valid k l =
    sym (judge-early faults fs (mem-get_d fs k no_frame l))
    ∙ ap (judge faults (map early fs)) (sym (row-early fs k l))
    ∙ judge-kept (map early fs) below (mem-get_d (map early fs) k no_frame (rw (length-map fs early) l)) faults
  where
    below : Early (map early fs)
    below i l = let a : i < length fs = rw (length-map fs early) at l in rw (row-early fs i a) (phase-fits (valid.frame i a))
