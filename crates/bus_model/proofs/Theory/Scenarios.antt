-- The scenarios of a bound: what their choices are, and how the bounds compare.
-- To fix the alignments of more groups only lowers windows and bounds; the approximate bound and the precise one are the two ends.
use Rattle.std.specs.Prelude.{ℕ, ◌+◌, ◌-◌, ◌≤◌, ◌<◌, ◌≡◌, refl, Bool, T, length, get_or, Option, Some, None}
use Rattle.std.proofs.Math.Path.{sym}
use Rattle.std.proofs.Common.{ap, ◌∙◌, arith, ext_get_or}
use mathlib.Core.List.Memᴰ
use mathlib.Core.List.Memᴰ.{head as here}
use mathlib.Core.List.{List, map, Memᴰ as Mem}
use Rattle.std.proofs.Math.Bool.{true, false}
use Rattle.std.proofs.Math.Nat.{le_trans}
use Rattle.std.proofs.lemmas.List.{length-map}
use Rattle.arith.specs.Lists.{range, greatest, combinations}
use Rattle.arith.specs.Laws.Members.{of_range, get_d-table, map_same, of_map, mem-combinations, of-combinations}
use Rattle.arith.specs.Laws.Sums.{le-greatest, greatest-le}
use Rattle.arith.specs.Laws.Combinations.{length-combinations, length-combination}
use Rattle.bus_model.specs.Frame.{row}
use Rattle.bus_model.specs.Valid.{Valid}
use Rattle.bus_model.specs.Bounds.{groups, window_limit, alignments, or_empty, choice_of, choices, scenarios, busy_window, scenario_response, every_group, bound_of, scenario_count}
use Rattle.bus_model.proofs.Theory.Frames.{group-listed}
use Rattle.bus_model.specs.Theory.Work.{Allows, RefinedBy}
use Rattle.bus_model.proofs.Theory.Response.{window-at, window-refine, response-le, response-none, response-refine}
use Rattle.bus_model.specs.declared.Frame.{Frame}
use Rattle.bus_model.specs.declared.Faults.{Faults}
use Rattle.bus_model.specs.declared.Choice.{Choice}
use Rattle.bus_model.specs.declared.Choice.TheVariants.{Fixed, Any}
use Rattle.bus_model.specs.Theory.Scenarios.{scenarios_of}

-- ---- a scenario by its choices

-- the scenario with these choices
abbrev pub scenario : (ℕ → Choice) → List Choice
scenario c = map c (range 1 groups)

-- Its choice for a group is the one given.
pub scenario-choice : (c : ℕ → Choice) (j : ℕ) → Mem j (range 1 groups) → choice_of (scenario c) j ≡ c j
scenario-choice c j m = let (low, high) = of_range 1 groups m in get_d-table c 1 groups (j - 1) Any (omega arith) ∙ ap c (omega arith)

-- Each list of a choice for each group is such a scenario.
pub scenario-is : (cs : List Choice) → length cs ≡ groups → scenario (choice_of cs) ≡ cs
unfolding range
scenario-is cs long =
    ext_get_or Any (scenario (choice_of cs)) cs (sym long) (λ i inside.
    let place : 1 + i - 1 ≡ i = omega arith in
    get_d-table (choice_of cs) 1 groups i Any inside ∙ ap (λ (n : ℕ). get_or cs n Any) place)

-- ---- the scenarios in which the groups that `fixes` names are fixed

-- A choice for a group that is fixed is one of its alignments.
pub fixed-choice : (fs : List Frame) (k : Frame) (j : ℕ) (b : Bool) {c : Choice} → T b → Mem c (choices fs k b j) → (a : ℕ) × Mem a (or_empty (alignments fs k j)) × (c ≡ Fixed a)
unfolding choices
fixed-choice fs k j true t m = of_map Fixed (or_empty (alignments fs k j)) m
fixed-choice fs k j false t m = absurd t

-- The choice `any` allows each choice for a group.
pub open-choice : (fs : List Frame) (k : Frame) (j : ℕ) (b : Bool) {c : Choice} → Mem c (choices fs k b j) → Allows (alignments fs k j) Any c
unfolding choices Allows
open-choice fs k j true m = let (a, l, e) = of_map Fixed (or_empty (alignments fs k j)) m in rw (e, Allows) l
open-choice fs k j false m = rw (Memᴰ.eq_of_singleton m, Allows) tt

-- A choice allows itself.
pub allows-self : (als : List ℕ) (c : Choice) → Allows als c c
unfolding Allows
allows-self als (Fixed a) = refl
allows-self als Any = tt

module _ (lists : ℕ → List Choice) where
  -- A scenario with a choice for each group is one of them.
  pub mem-choices : (c : ℕ → Choice) → ((j : ℕ) → Mem j (range 1 groups) → Mem (c j) (lists j)) → Mem (scenario c) (scenarios_of lists)
  mem-choices c m = mem-combinations c lists (range 1 groups) m

  -- Each of them has a choice for each group.
  pub of-choices : {cs : List Choice} → Mem cs (scenarios_of lists) → (j : ℕ) → Mem j (range 1 groups) → Mem (choice_of cs j) (lists j)
  of-choices {cs} m j l =
      let (low, high) = of_range 1 groups l in
      let same : 1 + (j - 1) ≡ j = omega arith in
      rw same at (of-combinations lists 1 groups Any m (j - 1) (omega arith))

  -- Each of them is a list of so many.
  pub choices-length : {cs : List Choice} → Mem cs (scenarios_of lists) → length cs ≡ groups
  unfolding range
  choices-length m = length-combination _ m

-- The same of those in which the groups that `fixes` names are fixed.
module _ (fs : List Frame) (k : Frame) (fixes : ℕ → Bool) where
  pub mem-scenarios : (c : ℕ → Choice) → ((j : ℕ) → Mem j (range 1 groups) → Mem (c j) (choices fs k (fixes j) j)) → Mem (scenario c) (scenarios fs k fixes)
  unfolding scenarios
  mem-scenarios = mem-choices (λ j. choices fs k (fixes j) j)

  pub of-scenarios : {cs : List Choice} → Mem cs (scenarios fs k fixes) → (j : ℕ) → Mem j (range 1 groups) → Mem (choice_of cs j) (choices fs k (fixes j) j)
  unfolding scenarios
  of-scenarios = of-choices (λ j. choices fs k (fixes j) j)

  pub scenarios-length : {cs : List Choice} → Mem cs (scenarios fs k fixes) → length cs ≡ groups
  unfolding scenarios
  scenarios-length = choices-length (λ j. choices fs k (fixes j) j)

-- The scenario count is the number of the precise bound's scenarios.
pub count-scenarios : (fs : List Frame) (k : Frame) → length (scenarios fs k every_group) ≡ scenario_count fs k
unfolding scenarios scenario_count choices
count-scenarios fs k = length-combinations (λ j. choices fs k true j) (range 1 groups) ∙ simp length-map

-- Where the same groups are fixed, the bound is the same.
pub bound-same : (faults : Faults) (fs : List Frame) (k : Frame) (fixes fixes' : ℕ → Bool) → ((j : ℕ) → Mem j (range 1 groups) → fixes j ≡ fixes' j) → bound_of faults fs k fixes ≡ bound_of faults fs k fixes'
unfolding bound_of scenarios
bound-same faults fs k fixes fixes' same =
    ap (λ (lists : List (List Choice)). greatest (scenario_response faults fs k) (combinations lists)) (map_same (range 1 groups) (λ j m. ap (λ (b : Bool). choices fs k b j) (same j m)))

-- every one of the scenarios has a window
abbrev pub Windowed : Faults → List Frame → Frame → (ℕ → Bool) → Type 0
Windowed faults fs k fixes = (cs : List Choice) → Mem cs (scenarios fs k fixes) → (l : ℕ) × (busy_window faults fs k cs ≡ Some l)

-- a choice where the group is fixed, and `any` where it is not
unfoldable pub where_fixed : Bool → Choice → Choice
where_fixed true c = c
where_fixed false c = Any

-- Where the group is fixed it is that choice.
is-fixed : (b : Bool) (c : Choice) → T b → where_fixed b c ≡ c
unfolding where_fixed
is-fixed true c t = refl
is-fixed false c t = absurd t

-- It is a choice for the group, if it is one where the group is fixed.
fixed-listed : (fs : List Frame) (k : Frame) (j : ℕ) (b : Bool) (c : Choice) → (T b → Mem c (choices fs k true j)) → Mem (where_fixed b c) (choices fs k b j)
unfolding where_fixed choices
fixed-listed fs k j true c m = m tt
fixed-listed fs k j false c m = here refl

-- ---- the scenario that takes given alignments

-- alignment α j of each group j that `fixes` fixes
abbrev pub chosen : (ℕ → Bool) → (ℕ → ℕ) → ℕ → Choice
chosen fixes α j = where_fixed (fixes j) (Fixed (α j))

-- It is one of the scenarios, if these are alignments that the bounds look at.
pub chosen-listed : (fs : List Frame) (k : Frame) (fixes : ℕ → Bool) (α : ℕ → ℕ) → ((j : ℕ) → T (fixes j) → Mem (α j) (or_empty (alignments fs k j)))
    → Mem (scenario (chosen fixes α)) (scenarios fs k fixes)
unfolding choices
chosen-listed fs k fixes α real =
    mem-scenarios fs k fixes (chosen fixes α) (λ j l. fixed-listed fs k j (fixes j) (Fixed (α j)) (λ t. Memᴰ.map Fixed (real j t)))

-- It has the alignment of each group that is fixed.
pub chosen-fixed : (fixes : ℕ → Bool) (α : ℕ → ℕ) (j : ℕ) → Mem j (range 1 groups) → T (fixes j) → choice_of (scenario (chosen fixes α)) j ≡ Fixed (α j)
chosen-fixed fixes α j l t = scenario-choice (chosen fixes α) j l ∙ is-fixed (fixes j) (Fixed (α j)) t

-- ---- fixing more groups

-- Every group that the one fixes the other fixes too.
infix 20 ◌⊆◌
abbrev pub ◌⊆◌ : (ℕ → Bool) → (ℕ → Bool) → Type 0
fixes ⊆ fixes' = (j : ℕ) → T (fixes j) → T (fixes' j)

-- the choices of a scenario, as far as `fixes` fixes them
abbrev coarse : (ℕ → Bool) → List Choice → ℕ → Choice
coarse fixes cs j = where_fixed (fixes j) (choice_of cs j)

module _ (fs : List Frame) (k : Frame) (fixes fixes' : ℕ → Bool) (more : fixes ⊆ fixes') (cs : List Choice) (m : Mem cs (scenarios fs k fixes')) where
  -- They make a scenario of `fixes`.
  coarse-listed : Mem (scenario (coarse fixes cs)) (scenarios fs k fixes)
  coarse-listed =
      mem-scenarios fs k fixes (coarse fixes cs) (λ j l.
      fixed-listed fs k j (fixes j) (choice_of cs j) (λ t. still-fixed j (fixes' j) (more j t) (of-scenarios fs k fixes' m j l)))
    where
      still-fixed : (j : ℕ) (b : Bool) → T b → Mem (choice_of cs j) (choices fs k b j) → Mem (choice_of cs j) (choices fs k true j)
      still-fixed j true t n = n
      still-fixed j false t n = absurd t

  -- It is refined by cs.
  coarse-refines : RefinedBy fs k (scenario (coarse fixes cs)) cs
  unfolding where_fixed
  coarse-refines j l = rw (scenario-choice (coarse fixes cs) j l) (go (fixes j))
    where
      go : (b : Bool) → Allows (alignments fs k j) (where_fixed b (choice_of cs j)) (choice_of cs j)
      go true = allows-self (alignments fs k j) (choice_of cs j)
      go false = open-choice fs k j (fixes' j) (of-scenarios fs k fixes' m j l)

  -- At a group that `fixes` fixes both have the same choice.
  coarse-same : (j : ℕ) → Mem j (range 1 groups) → T (fixes j) → choice_of (scenario (coarse fixes cs)) j ≡ choice_of cs j
  coarse-same j l t = scenario-choice (coarse fixes cs) j l ∙ is-fixed (fixes j) (choice_of cs j) t

module _ {fs : List Frame} (valid : Valid fs) {k : ℕ} (inside : k < length fs) where
  abbrev f : Frame
  f = row fs k

  -- the frame's group is one of the groups
  listed : Mem f.group (range 1 groups)
  listed = group-listed (valid.frame k inside)

  -- A scenario has an alignment of the frame's own group, if that is fixed.
  pub own_fixed : (fixes : ℕ → Bool) → T (fixes f.group) → {cs : List Choice} → Mem cs (scenarios fs f fixes) → (a : ℕ) × (choice_of cs f.group ≡ Fixed a)
  own_fixed fixes own m = let (a, l, e) = fixed-choice fs f f.group (fixes f.group) own (of-scenarios fs f fixes m f.group listed) in (a, e)

  -- No bound exceeds the longest window.
  pub bound-le-limit : (faults : Faults) (fixes : ℕ → Bool) → T (fixes f.group) → bound_of faults fs f fixes ≤ window_limit
  unfolding bound_of
  bound-le-limit faults fixes own = greatest-le (scenarios fs f fixes) (λ cs m. go cs (own_fixed fixes own m) (busy_window faults fs f cs) refl)
    where
      go : (cs : List Choice) → (a : ℕ) × (choice_of cs f.group ≡ Fixed a) → (r : Option ℕ) → busy_window faults fs f cs ≡ r → scenario_response faults fs f cs ≤ window_limit
      go cs (a, fixes-own) (Some l) e = let (low, high, fits) = window-at faults fs f cs l e in le_trans (response-le valid inside faults cs a fixes-own l e) high
      go cs own None e = rw (response-none faults fs f cs e) (omega arith)

  module _ (faults : Faults) (fixes fixes' : ℕ → Bool) (more : fixes ⊆ fixes') (windows : Windowed faults fs f fixes) where
    -- Where fewer groups are fixed and windows exist, they exist where more are.
    pub windows-refine : Windowed faults fs f fixes'
    windows-refine cs m =
        let (l, e) = windows _ (coarse-listed fs f fixes fixes' more cs m) in
        let (l', e', le) = window-refine valid inside faults _ cs (coarse-refines fs f fixes fixes' more cs m) l e in
        (l', e')

    -- And the bound is not greater.
    pub bound-refine : T (fixes f.group) → bound_of faults fs f fixes' ≤ bound_of faults fs f fixes
    unfolding bound_of
    bound-refine own = greatest-le (scenarios fs f fixes') each
      where
        each : (cs : List Choice) → Mem cs (scenarios fs f fixes') → scenario_response faults fs f cs ≤ greatest (scenario_response faults fs f) (scenarios fs f fixes)
        each cs m =
            let in_List = coarse-listed fs f fixes fixes' more cs m in
            let (l, e) = windows _ in_List in
            let (a, is) = own_fixed fixes own in_List in
            let same = sym (coarse-same fs f fixes fixes' more cs m f.group listed own) ∙ is in
            le_trans (response-refine valid inside faults _ cs (coarse-refines fs f fixes fixes' more cs m) l e a is same) (le-greatest (scenario_response faults fs f) in_List)
