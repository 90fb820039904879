-- The alignments of a group repeat after the least common multiple of the periods of its frames ahead, its turn, which may be far
-- shorter than its hyperperiod: from an instant and from the same one a turn later these frames are released at the same distances.
-- So a search need only visit the alignments of the first turn.
use Prim.Native.Nat.{ℕ, suc, ◌+◌, ◌-◌, ◌*◌, ◌%◌, ◌≤◌, ◌<◌, ◌∣◌}
use Rattle.std.proofs.Math.Path.{◌≡◌, refl, ap, ap₂, fun_ext}
use Rattle.std.proofs.Common.{sym, subst, ◌∙◌, arith, mod-eq_of_lt, length-set}
use mathlib.Core.List.Memᴰ
use mathlib.Core.List.Memᴰ.{head as here}
use mathlib.Core.List.Memᴰ.{tail as there}
use mathlib.Core.List.{List, [], ◌∷◌, Memᴰ as Mem}
use Rattle.std.proofs.Math.Nat.{le_of_dvd, mod-lt, mod-mod_of_dvd, add-mul-mod_self_right, zero-mod}
use Rattle.std.proofs.Math.Decide.{ℕ_discrete}
use Rattle.std.specs.Prelude.{T, length, set, Option, Some, None}
use Rattle.std.proofs.Math.Dec.{leb}
use Rattle.arith.specs.Lists.{greatest, keep, range}
use Rattle.arith.specs.Least.{least, or_zero}
use Rattle.arith.specs.Releases.{releases_before}
use Rattle.arith.specs.Laws.Sums.{sum_same, le-greatest, greatest-le}
use Rattle.arith.specs.Laws.Tests.{same_test}
use Rattle.arith.specs.Laws.Members.{mem-keep, of-keep, mem-range, of_range, exists-mem, of-exists}
use Rattle.arith.specs.Laws.Walks.{Walk, keep-found, walk_start}
use Rattle.arith.specs.Laws.Multiples.{lcm_of-pos, lcm_of-least}
use Rattle.bus_model.specs.Frame.{row}
use Rattle.bus_model.specs.Valid.{ValidFrame, Valid}
use Rattle.bus_model.specs.Pattern.{of_group, hyperperiod}
use Rattle.bus_model.specs.Bounds.{groups, window_limit, ahead, blocking, phase, is_released_at, alignments, or_empty, distance, choice_of, demand, work_at, group_work, work, fault_load, window_load, busy_window, delay_load, queueing_delay, own_distance, instance_response, response_time, scenario_response}
use Rattle.bus_model.proofs.Theory.Pattern.{hyperperiod-multiple}
use Rattle.bus_model.proofs.Theory.Frames.{Part, phase-fits, group-listed, valid-frame, better-ahead, of-ahead, of-group, group-part, self-ahead, group-divides, group-pos}
use Rattle.bus_model.proofs.Theory.Alignment.{released-at, released-turn, or-empty}
use Rattle.bus_model.specs.Theory.Visits.{is_alignment}
use Rattle.bus_model.proofs.Theory.Visits.{first-visited}
use Rattle.bus_model.specs.Theory.Refine.{refined}
use Rattle.bus_model.proofs.Theory.Refine.{set_same, set_other}
use Rattle.bus_model.specs.declared.Frame.{Frame}
use Rattle.bus_model.specs.declared.Faults.{Faults}
use Rattle.bus_model.specs.declared.Choice.{Choice}
use Rattle.bus_model.specs.declared.Choice.TheVariants.{Fixed, Any}
use Rattle.bus_model.specs.Theory.Turns.{turn}

-- the alignments of the first turn
unfoldable pub first_turn : List Frame → Frame → ℕ → List ℕ
first_turn fs k j = keep (is_alignment fs k j) (range 0 (turn fs k j))

-- A frame's instants leave its phase as the remainder.
released-rest : {g : Frame} → ValidFrame g → (a : ℕ) → T (is_released_at a g) → a % g.period ≡ phase g
released-rest {g} valid a t = let (m, is) = released-turn g a t in rw is (add-mul-mod_self_right (phase g) m g.period ∙ mod-eq_of_lt (phase-fits valid))

-- What maps the elements of one list into another, and 0 to 0, maps what the bounds look at so too, if only both or neither are empty.
or-empty-map : (t : ℕ → ℕ) → t 0 ≡ 0 → (als bls : List ℕ) → ((a : ℕ) → Mem a als → Mem (t a) bls) → ((b : ℕ) → Mem b bls → (a : ℕ) × Mem a als)
    → {a : ℕ} → Mem a (or_empty als) → Mem (t a) (or_empty bls)
unfolding or_empty
or-empty-map t z [] [] to back m = rw (Memᴰ.eq_of_singleton m, z) (here refl)
or-empty-map t z [] (b ∷ bls) to back m = absurd (Memᴰ.not-nil (back b (here refl)).1)
or-empty-map t z (c ∷ als) bls to back {a} m = or-empty (to a m)

-- Where a list holds part of another, and t leads from the other back into it, what is the same at a and t a is found in both alike.
module _ (t : ℕ → ℕ) (xs ys : List ℕ) (into : (a : ℕ) → Mem a xs → Mem a ys) (back : (a : ℕ) → Mem a ys → Mem (t a) xs) where
  -- the greatest value
  greatest-back : (f : ℕ → ℕ) → ((a : ℕ) → f (t a) ≡ f a) → greatest f xs ≡ greatest f ys
  greatest-back f same =
      let most = greatest-le {f = f} xs (λ a m. le-greatest f (into a m)) in
      let least = greatest-le {f = f} ys (λ a m. rw (same a) at (le-greatest f (back a m))) in
      omega arith

module _ {fs : List Frame} (valid : Valid fs) (k : Frame) (j : ℕ) where
  -- ---- the turn

  -- the frames ahead at the group are valid
  pub group-frame : {g : Frame} → Mem g (of_group (ahead fs k) j) → ValidFrame g
  group-frame m = valid-frame valid (of-ahead fs k (of-group (ahead fs k) j m).0)

  -- It is not 0.
  pub turn-pos : 1 ≤ turn fs k j
  unfolding turn hyperperiod
  turn-pos = lcm_of-pos (λ g. g.period) (of_group (ahead fs k) j) (λ g m. (group-frame m).period)

  -- The hyperperiod is a whole number of turns.
  pub turn-divides : turn fs k j ∣ hyperperiod (of_group fs j)
  unfolding turn hyperperiod
  turn-divides = lcm_of-least (λ g. g.period) (of_group (ahead fs k) j) (hyperperiod (of_group fs j)) (λ g m. (group-frame m).period) (λ g m. group-divides fs k j m)

  -- So the turn is not longer.
  pub turn-le : turn fs k j ≤ hyperperiod (of_group fs j)
  turn-le = le_of_dvd (group-pos valid j) turn-divides

  -- Each frame ahead has a whole number of periods in it.
  rest-turn : {g : Frame} → Mem g (of_group (ahead fs k) j) → (a : ℕ) → a % turn fs k j % g.period ≡ a % g.period
  unfolding turn
  rest-turn {g} m a = mod-mod_of_dvd g.period a (hyperperiod-multiple (of_group (ahead fs k) j) m)

  -- At an instant and at the same one of the first turn its distances are the same.
  pub distance-turn : {g : Frame} → Mem g (of_group (ahead fs k) j) → (a : ℕ) → distance g (a % turn fs k j) ≡ distance g a
  unfolding distance
  distance-turn m a = rw (rest-turn m a)

  -- ---- the alignments of the first turn

  -- What leaves the same remainders is an alignment with it.
  aligned-same : (a b : ℕ) → ((g : Frame) → Mem g (of_group (ahead fs k) j) → b % g.period ≡ a % g.period) → T (is_alignment fs k j a) → T (is_alignment fs k j b)
  aligned-same a b same t =
      let (g, m, u) = of-exists (is_released_at a) (of_group (ahead fs k) j) t in
      exists-mem (is_released_at b) m (released-at g b (same g m ∙ released-rest (group-frame m) a u))

  -- An instant and the same one of the first turn are alignments together.
  pub aligned-turn : (a : ℕ) → is_alignment fs k j (a % turn fs k j) ≡ is_alignment fs k j a
  aligned-turn a = same_test _ _ (aligned-same (a % turn fs k j) a (λ g m. sym (rest-turn m a))) (aligned-same a (a % turn fs k j) (λ g m. rest-turn m a))

  -- Those of the first turn are alignments.
  pub first-alignment : {a : ℕ} → Mem a (first_turn fs k j) → Mem a (alignments fs k j)
  unfolding first_turn alignments
  first-alignment {a} m =
      let (r, t) = of-keep _ (range 0 (turn fs k j)) m in
      let (low, high) = of_range 0 (turn fs k j) r in
      mem-keep _ (mem-range 0 (hyperperiod (of_group fs j)) a low (omega (arith, turn-le))) t

  -- Every alignment is one of them, some turns later.
  pub turned-alignment : {a : ℕ} → Mem a (alignments fs k j) → Mem (a % turn fs k j) (first_turn fs k j)
  unfolding first_turn alignments
  turned-alignment {a} m =
      let (r, t) = of-keep _ (range 0 (hyperperiod (of_group fs j))) m in
      mem-keep _ (mem-range 0 (turn fs k j) (a % turn fs k j) (omega arith) (omega (arith, mod-lt a turn-pos))) (rw (aligned-turn a) t)

  -- So are those that a search of the first turn visits,
  pub first-aligned : {a : ℕ} → Mem a (or_empty (first_turn fs k j)) → Mem a (or_empty (alignments fs k j))
  first-aligned = or-empty-map (λ a. a) refl (first_turn fs k j) (alignments fs k j) (λ a m. first-alignment m) (λ a m. (a % turn fs k j, turned-alignment m))

  -- and every one that the bounds look at is one of these, some turns later.
  pub turned : {a : ℕ} → Mem a (or_empty (alignments fs k j)) → Mem (a % turn fs k j) (or_empty (first_turn fs k j))
  turned = or-empty-map (λ a. a % turn fs k j) (zero-mod (turn fs k j)) (alignments fs k j) (first_turn fs k j) (λ a m. turned-alignment m) (λ a m. (a, first-alignment m))

  -- ---- searches among them

  module _ (f : ℕ → ℕ) (same : (a : ℕ) → f (a % turn fs k j) ≡ f a) where
    -- What looks the same a turn later has its greatest value in the first turn.
    pub greatest-turn : greatest f (or_empty (first_turn fs k j)) ≡ greatest f (or_empty (alignments fs k j))
    greatest-turn = greatest-back (λ a. a % turn fs k j) (or_empty (first_turn fs k j)) (or_empty (alignments fs k j)) (λ a m. first-aligned m) (λ a m. turned m) f same

    -- The same without the empty alignment.
    pub greatest-first : greatest f (first_turn fs k j) ≡ greatest f (alignments fs k j)
    greatest-first = greatest-back (λ a. a % turn fs k j) (first_turn fs k j) (alignments fs k j) (λ a m. first-alignment m) (λ a m. turned-alignment m) f same

  module _ {gs : List Frame} (part : Part fs k gs) where
    -- The work at an alignment is that at the same one of the first turn.
    pub work-turn : (a n : ℕ) → work_at (of_group gs j) (a % turn fs k j) n ≡ work_at (of_group gs j) a n
    unfolding work_at demand
    work-turn a n = sum_same (of_group gs j) (λ g m. rw (distance-turn (group-part fs k part j g m) a))

    -- So the greatest is that of the first turn.
    pub part-work-turn : (c : Choice) (n : ℕ) → group_work (of_group gs j) (first_turn fs k j) c n ≡ group_work (of_group gs j) (alignments fs k j) c n
    unfolding group_work
    part-work-turn (Fixed a) n = refl
    part-work-turn Any n = greatest-first (λ a. work_at (of_group gs j) a n) (λ a. work-turn a n)

  -- The same of all the group's frames ahead.
  pub group-work-turn : (c : Choice) (n : ℕ) → group_work (of_group (ahead fs k) j) (first_turn fs k j) c n ≡ group_work (of_group (ahead fs k) j) (alignments fs k j) c n
  group-work-turn = part-work-turn (λ g m. m)

-- ---- scenarios that look alike

-- At group j two choices look alike: from both alignments the frames ahead are released at the same distances, or both leave the alignment open.
unfoldable pub SameChoice : List Frame → Frame → ℕ → Choice → Choice → Type 0
SameChoice fs k j (Fixed a) (Fixed b) = (g : Frame) → Mem g (of_group (ahead fs k) j) → distance g a ≡ distance g b
SameChoice fs k j (Fixed a) Any = ⊥
SameChoice fs k j Any (Fixed b) = ⊥
SameChoice fs k j Any Any = Unit {0}

-- Two scenarios do: their choices for each group.
abbrev pub Alike : List Frame → Frame → List Choice → List Choice → Type 0
Alike fs k cs cs' = (j : ℕ) → Mem j (range 1 groups) → SameChoice fs k j (choice_of cs j) (choice_of cs' j)

module _ (fs : List Frame) (k : Frame) where
  -- A choice looks like itself,
  same_self : (j : ℕ) (c : Choice) → SameChoice fs k j c c
  unfolding SameChoice
  same_self j (Fixed a) = λ g m. refl
  same_self j Any = tt

  -- and a scenario too.
  pub alike_self : (cs : List Choice) → Alike fs k cs cs
  alike_self cs j m = same_self j (choice_of cs j)

  -- Two scenarios that look alike still do where one group is fixed, in each at an alignment with the same distances.
  pub alike_set : (cs cs' : List Choice) → Alike fs k cs cs' → length cs ≡ groups → length cs' ≡ groups → {j : ℕ} → Mem j (range 1 groups)
      → (a b : ℕ) → SameChoice fs k j (Fixed a) (Fixed b) → Alike fs k (set cs (j - 1) (Fixed a)) (set cs' (j - 1) (Fixed b))
  alike_set cs cs' alike long long' {j} listed a b same i l =
      elim (ℕ_discrete i j) [
        | yes e ↦ rw (e, set_same cs listed a long, set_same cs' listed b long') same
        | no other ↦ rw (set_other cs listed a l other, set_other cs' listed b l other) (alike i l)
      ]

  module _ (cs cs' : List Choice) (alike : Alike fs k cs cs') where
    module _ {gs : List Frame} (part : Part fs k gs) where
      -- Choices that look alike give the same work.
      choice-alike : (j n : ℕ) (c c' : Choice) → SameChoice fs k j c c' → group_work (of_group gs j) (alignments fs k j) c n ≡ group_work (of_group gs j) (alignments fs k j) c' n
      unfolding SameChoice group_work work_at demand
      choice-alike j n (Fixed a) (Fixed b) same = sum_same (of_group gs j) (λ g m. rw (same g (group-part fs k part j g m)))
      choice-alike j n (Fixed a) Any none = absurd none
      choice-alike j n Any (Fixed b) none = absurd none
      choice-alike j n Any Any u = refl

      -- So do scenarios.
      pub work-alike : (n : ℕ) → work fs k gs cs n ≡ work fs k gs cs' n
      unfolding work
      work-alike n = sum_same (range 1 groups) (λ j m. choice-alike j n (choice_of cs j) (choice_of cs' j) (alike j m))

    -- They have the same window,
    pub window-alike : (faults : Faults) → busy_window faults fs k cs ≡ busy_window faults fs k cs'
    unfolding busy_window window_load
    window-alike faults = ap (λ (w : ℕ → ℕ). least (λ l. leb (blocking fs k + w l + fault_load faults fs k l) l) window_limit 1) (fun_ext (work-alike (λ g m. m)))

    -- and the same delays.
    pub delay-alike : (faults : Faults) (q : ℕ) → queueing_delay faults fs k cs q ≡ queueing_delay faults fs k cs' q
    unfolding queueing_delay delay_load
    delay-alike faults q = ap (λ (h : ℕ → ℕ). least (λ w. leb (blocking fs k + q * k.length + h (suc w) + fault_load faults fs k (w + k.length)) w) window_limit 0) (fun_ext (work-alike (better-ahead fs k)))

module _ {fs : List Frame} (valid : Valid fs) {k : ℕ} (inside : k < length fs) where
  abbrev f : Frame
  f = row fs k

  module _ (cs cs' : List Choice) (alike : Alike fs f cs cs') where
    -- The frame's own distance is the same in both,
    pub own-alike : own_distance f cs ≡ own_distance f cs'
    unfolding own_distance SameChoice
    own-alike = go (choice_of cs f.group) (choice_of cs' f.group) (alike f.group (group-listed (valid.frame k inside)))
      where
        go : (c c' : Choice) → SameChoice fs f f.group c c'
            → ◌≡◌ {A = ℕ} (elim c as (λ _. ℕ) [ Fixed a ↦ distance f a | Any ↦ 0 ]) (elim c' as (λ _. ℕ) [ Fixed a ↦ distance f a | Any ↦ 0 ])
        go (Fixed a) (Fixed b) same = same f (self-ahead fs k inside)
        go (Fixed a) Any none = absurd none
        go Any (Fixed b) none = absurd none
        go Any Any u = refl

    -- and so are the response times.
    time-alike : (faults : Faults) (l : ℕ) → response_time faults fs f cs l ≡ response_time faults fs f cs' l
    unfolding response_time instance_response
    time-alike faults l =
        ap₂ (λ (h : ℕ → ℕ) (d : ℕ). greatest h (range 0 (releases_before d f.period l)))
        (fun_ext (λ q. rw (delay-alike fs f cs cs' alike faults q, own-alike)))
        own-alike

    -- So they have the same response.
    pub response-alike : (faults : Faults) → scenario_response faults fs f cs ≡ scenario_response faults fs f cs'
    unfolding scenario_response
    response-alike faults =
        ap₂ (λ (r : Option ℕ) (h : ℕ → ℕ). elim r as (λ _. ℕ) [ Some l ↦ h l | None ↦ 0 ]) (window-alike fs f cs cs' alike faults) (fun_ext (time-alike faults))

  -- Group by group the same is found from both.
  pub refined-alike : (faults : Faults) (js : List ℕ) → ((j : ℕ) → Mem j js → Mem j (range 1 groups)) → (cs cs' : List Choice) → Alike fs f cs cs' → length cs ≡ groups → length cs' ≡ groups
      → refined faults fs f js cs ≡ refined faults fs f js cs'
  unfolding refined
  refined-alike faults [] group cs cs' alike long long' = response-alike cs cs' alike faults
  refined-alike faults (j ∷ js) group cs cs' alike long long' =
      ap (λ (h : ℕ → ℕ). greatest h (or_empty (alignments fs f j))) (fun_ext (λ a.
      refined-alike faults js (λ i l. group i (there l)) (set cs (j - 1) (Fixed a)) (set cs' (j - 1) (Fixed a))
      (alike_set fs f cs cs' alike long long' (group j (here refl)) a a (same_self fs f j (Fixed a)))
      (length-set cs (j - 1) (Fixed a) ∙ long) (length-set cs' (j - 1) (Fixed a) ∙ long')))

  -- ---- a group takes the alignments of its first turn

  module _ (cs : List Choice) (long : length cs ≡ groups) (j : ℕ) (listed : Mem j (range 1 groups)) where
    -- the scenario with the group at alignment a
    abbrev fixed : ℕ → List Choice
    fixed a = set cs (j - 1) (Fixed a)

    -- It looks like that of the first turn.
    pub alike-turn : (a : ℕ) → Alike fs f (set cs (j - 1) (Fixed (a % turn fs f j))) (set cs (j - 1) (Fixed a))
    unfolding SameChoice
    alike-turn a = alike_set fs f cs cs (alike_self fs f cs) long long listed (a % turn fs f j) a (λ g m. distance-turn valid f j m a)

    -- So no more need be refined.
    pub refined-turn : (faults : Faults) (js : List ℕ) → ((i : ℕ) → Mem i js → Mem i (range 1 groups))
        → greatest (λ a. refined faults fs f js (set cs (j - 1) (Fixed a))) (or_empty (first_turn fs f j)) ≡ greatest (λ a. refined faults fs f js (set cs (j - 1) (Fixed a))) (or_empty (alignments fs f j))
    refined-turn faults js group =
        greatest-turn valid f j (λ a. refined faults fs f js (fixed a)) (λ a.
        refined-alike faults js group (fixed (a % turn fs f j)) (fixed a) (alike-turn a) (length-set cs (j - 1) (Fixed (a % turn fs f j)) ∙ long) (length-set cs (j - 1) (Fixed a) ∙ long))

-- ---- a visit of the first turn

module _ {A B : Type 0} (F : List ℕ → B) (join : A → B → B) (goal : B) where
  -- It starts at what a search finds first; a group without alignments is visited once, at 0.
  pub visit-first : {fs : List Frame} → Valid fs → (k : Frame) (j : ℕ) {done : A} (found : Option ℕ) → found ≡ least (is_alignment fs k j) (turn fs k j - 0) 0
      → join done (F (or_empty (first_turn fs k j))) ≡ goal → Walk F join (is_alignment fs k j) (turn fs k j) goal done (or_zero found)
  unfolding first_turn
  visit-first {fs} valid k j found is start =
      let (inside, first) = first-visited (is_alignment fs k j) (turn fs k j) (turn-pos valid k j) found is in
      walk_start F join (is_alignment fs k j) (turn fs k j) goal (or_empty (first_turn fs k j)) inside first start

module _ {fs : List Frame} (valid : Valid fs) (k : Frame) (j : ℕ) where
  -- What a search in it finds is an alignment.
  pub found-listed : (n : ℕ) {b : ℕ} → least (is_alignment fs k j) (turn fs k j - n) n ≡ Some b → Mem b (or_empty (alignments fs k j))
  unfolding first_turn
  found-listed n is = or-empty (first-alignment valid k j (keep-found (is_alignment fs k j) (turn fs k j) n refl is))

  -- So is the first, or the empty one.
  pub first-listed : (first : Option ℕ) → first ≡ least (is_alignment fs k j) (turn fs k j - 0) 0 → Mem (or_zero first) (or_empty (alignments fs k j))
  first-listed first is =
      let w = visit-first {A = ℕ} (λ xs. xs) (λ done xs. xs) (or_empty (first_turn fs k j)) valid k j {done = 0} first is refl in
      first-aligned valid k j (subst (Mem (or_zero first)) w.is (here refl))
