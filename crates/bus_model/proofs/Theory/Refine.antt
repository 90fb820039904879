-- The bounds found group by group: one group after the other takes each of its alignments, and the greatest response counts.
-- A branch may be left out where its scenario with the open groups at `Any` has no greater response than one already found.
use Prim.Native.Nat.{ℕ, suc, ◌-◌, ◌≤◌, ◌<◌}
use Rattle.std.specs.Prelude.{◌≡◌, Bool, ◌≢◌, ◌↔◌, ◌⊎◌, eqb, length, set, replicate, Some}
use Rattle.std.proofs.Math.Path.{refl, sym}
use Rattle.std.proofs.Common.{ap, ◌∙◌, eqb→eq, length-set, get_or-set_same, get_or-set_other}
use mathlib.Core.List.Memᴰ
use mathlib.Core.List.Memᴰ.{head as here}
use mathlib.Core.List.Memᴰ.{tail as there}
use mathlib.Core.List.{List, [], ◌∷◌, map, Memᴰ as Mem}
use Rattle.std.proofs.Math.Bool.{true, false}
use Rattle.std.proofs.Math.Logic.{inl, inr}
use native.Mathlib.Omega.{arith}
use Rattle.std.proofs.Math.Nat.{le_trans}
use Rattle.std.proofs.Math.Decide.{ℕ_discrete}
use Rattle.std.proofs.Math.Dec.{T, eqb_refl}
use Rattle.std.proofs.lemmas.List.{get_or-replicate}
use Rattle.std.proofs.Math.Seq.{ext_get_or}
use Rattle.arith.specs.Lists.{greatest, exists, range}
use Rattle.arith.specs.Laws.Members.{mem-range, of_range, of_map, named-mem, of-named}
use Rattle.arith.specs.Laws.Sums.{le-greatest, greatest-le}
use Rattle.bus_model.specs.Frame.{row}
use Rattle.bus_model.specs.Valid.{ValidFrame, Valid}
use Rattle.bus_model.specs.Bounds.{groups, alignments, or_empty, choice_of, choices, scenarios, own_group, busy_window, scenario_response, bound_of, approximate_bound}
use Rattle.bus_model.proofs.Theory.Frames.{group-listed}
use Rattle.bus_model.specs.Theory.Work.{Allows, RefinedBy}
use Rattle.bus_model.proofs.Theory.Response.{response-refine}
use Rattle.bus_model.specs.Theory.Scenarios.{scenarios_of}
use Rattle.bus_model.proofs.Theory.Scenarios.{scenario-is, mem-choices, of-choices, choices-length, allows-self}
use Rattle.bus_model.specs.declared.Frame.{Frame}
use Rattle.bus_model.specs.declared.Faults.{Faults}
use Rattle.bus_model.specs.declared.Choice.{Choice}
use Rattle.bus_model.specs.declared.Choice.TheVariants.{Fixed, Any}
use Rattle.bus_model.specs.Theory.Refine.{refined, free}

-- ---- one group is fixed

module _ (cs : List Choice) {j : ℕ} (listed : Mem j (range 1 groups)) where
  -- It has that alignment.
  pub set_same : (a : ℕ) → length cs ≡ groups → choice_of (set cs (j - 1) (Fixed a)) j ≡ Fixed a
  set_same a long = let (low, high) = of_range 1 groups listed in get_or-set_same cs (j - 1) (Fixed a) Any (omega arith)

  -- The others stand as before.
  pub set_other : (a : ℕ) {i : ℕ} → Mem i (range 1 groups) → i ≢ j → choice_of (set cs (j - 1) (Fixed a)) i ≡ choice_of cs i
  set_other a {i} m other =
      let (low, high) = of_range 1 groups listed in
      let (i-low, i-high) = of_range 1 groups m in
      get_or-set_other cs (j - 1) (i - 1) (Fixed a) Any (λ e. other (omega arith))

module _ (fs : List Frame) (k : Frame) where
  -- ---- the scenarios at the end

  -- cs' is cs with one alignment after the other for the groups js
  unfoldable Leaf : List ℕ → List Choice → List Choice → Type 0
  Leaf [] cs cs' = cs' ≡ cs
  Leaf (j ∷ js) cs cs' = (a : ℕ) × Mem a (or_empty (alignments fs k j)) × Leaf js (set cs (j - 1) (Fixed a)) cs'

  -- Each of them counts.
  leaf-le : (faults : Faults) (js : List ℕ) (cs cs' : List Choice) → Leaf js cs cs' → scenario_response faults fs k cs' ≤ refined faults fs k js cs
  unfolding Leaf refined
  leaf-le faults [] cs cs' e = rw e (omega arith)
  leaf-le faults (j ∷ js) cs cs' (a, m, l) = le_trans (leaf-le faults js (set cs (j - 1) (Fixed a)) cs' l) (le-greatest (λ b. refined faults fs k js (set cs (j - 1) (Fixed b))) m)

  -- Nothing else does.
  refined-le : (faults : Faults) (js : List ℕ) (cs : List Choice) {n : ℕ} → ((cs' : List Choice) → Leaf js cs cs' → scenario_response faults fs k cs' ≤ n) → refined faults fs k js cs ≤ n
  unfolding Leaf refined
  refined-le faults [] cs le = le cs refl
  refined-le faults (j ∷ js) cs le = greatest-le _ (λ a m. refined-le faults js (set cs (j - 1) (Fixed a)) (λ cs' l. le cs' (a, m, l)))

  -- What one alignment after the other keeps holds at the end.
  leaf-keeps : (P : List ℕ → List Choice → Type 0)
      → ((j : ℕ) (js : List ℕ) (cs : List Choice) (a : ℕ) → Mem a (or_empty (alignments fs k j)) → P (j ∷ js) cs → P js (set cs (j - 1) (Fixed a)))
      → (js : List ℕ) {cs cs' : List Choice} → P js cs → Leaf js cs cs' → P [] cs'
  unfolding Leaf
  leaf-keeps P step [] holds e = rw e holds
  leaf-keeps P step (j ∷ js) {cs} holds (a, m, l) = leaf-keeps P step js (step j js cs a m holds) l

-- ---- they are the scenarios with one of some choices for each group

-- The choices in the lists are those of cs, but for the groups js, whose lists have each of their alignments.
pub record Opens (fs : List Frame) (k : Frame) (lists : ℕ → List Choice) (js : List ℕ) (cs : List Choice) : Type 0 where
  pub long : length cs ≡ groups
  pub group : (j : ℕ) → Mem j js → Mem j (range 1 groups)
  pub all : (j : ℕ) → Mem j js → lists j ≡ map Fixed (or_empty (alignments fs k j))
  pub rest : (i : ℕ) → Mem i (range 1 groups) → Mem i js ⊎ (lists i ≡ choice_of cs i ∷ [])

module _ (fs : List Frame) (k : Frame) (lists : ℕ → List Choice) where
  -- the choices of cs are in the lists, but for the groups js, which are still to take theirs
  record Partly (js : List ℕ) (cs : List Choice) : Type 0 where
    long : length cs ≡ groups
    group : (j : ℕ) → Mem j js → Mem j (range 1 groups)
    all : (j : ℕ) → Mem j js → lists j ≡ map Fixed (or_empty (alignments fs k j))
    rest : (i : ℕ) → Mem i (range 1 groups) → Mem i js ⊎ Mem (choice_of cs i) (lists i)

  -- one more group takes its alignment
  partly_more : (j : ℕ) (js : List ℕ) (cs : List Choice) (a : ℕ) → Mem a (or_empty (alignments fs k j)) → Partly (j ∷ js) cs → Partly js (set cs (j - 1) (Fixed a))
  partly_more j js cs a m p =
      record {
        long = length-set cs (j - 1) (Fixed a) ∙ p.long;
        group = λ i l. p.group i (there l);
        all = λ i l. p.all i (there l);
        rest = λ i l. elim (ℕ_discrete i j) [
          | yes e ↦ inr (rw (e, set_same cs (p.group j (here refl)) a p.long, p.all j (here refl)) (Memᴰ.map Fixed m))
          | no other ↦ elim (p.rest i l) [
            | inl later ↦ elim (Memᴰ.cases_cons later) [ inl e ↦ absurd (other e) | inr n ↦ inl n ]
            | inr now ↦ inr (rw (set_other cs (p.group j (here refl)) a l other) now)
          ]
        ];
      }

  -- Where two lists of choices agree but for the groups js, and the second fixes these, the first becomes the second.
  becomes : (js : List ℕ) (cs cs' : List Choice) → length cs ≡ groups → length cs' ≡ groups → ((j : ℕ) → Mem j js → Mem j (range 1 groups))
      → ((j : ℕ) → Mem j js → (a : ℕ) × Mem a (or_empty (alignments fs k j)) × (choice_of cs' j ≡ Fixed a))
      → ((i : ℕ) → Mem i (range 1 groups) → ¬ Mem i js → choice_of cs i ≡ choice_of cs' i) → Leaf fs k js cs cs'
  unfolding Leaf
  becomes [] cs cs' long long' group takes agree =
      ext_get_or Any cs' cs (long' ∙ sym long) (λ i inside.
      let place : suc i - 1 ≡ i = omega arith in
      rw place at (sym (agree (suc i) (mem-range 1 groups (suc i) (omega arith) (omega arith)) Memᴰ.not-nil)))
  becomes (j ∷ js) cs cs' long long' group takes agree =
      let (a, m, e) = takes j (here refl) in (
        a,
        m,
        becomes js (set cs (j - 1) (Fixed a)) cs' (length-set cs (j - 1) (Fixed a) ∙ long) long' (λ i l. group i (there l)) (λ i l. takes i (there l)) (λ i l later.
            elim (ℕ_discrete i j) [
              | yes same ↦ rw (same, set_same cs (group j (here refl)) a long) (sym e)
              | no other ↦ set_other cs (group j (here refl)) a l other ∙ agree i l (λ n. elim (Memᴰ.cases_cons n) [ inl now ↦ other now | inr later-on ↦ later later-on ])
            ]),
      )

  module _ (js : List ℕ) (cs : List Choice) (opens : Opens fs k lists js cs) where
    -- no group has taken one yet
    partly_none : Partly js cs
    partly_none =
        record {
          long = opens.long;
          group = opens.group;
          all = opens.all;
          rest = λ i l. elim (opens.rest i l) [ inl m ↦ inl m | inr e ↦ inr (rw e (here refl)) ];
        }

    -- so all have in the end
    leaf-taken : {cs' : List Choice} → Leaf fs k js cs cs' → Mem cs' (scenarios_of lists)
    leaf-taken {cs'} leaf =
        let whole = leaf-keeps fs k Partly partly_more js partly_none leaf in
        rw (scenario-is cs' whole.long) at (mem-choices lists (choice_of cs') (λ i l. elim (whole.rest i l) [ inl m ↦ absurd (Memᴰ.not-nil m) | inr m ↦ m ]))

    -- every scenario is one of those at the end
    taken-leaf : {cs' : List Choice} → Mem cs' (scenarios_of lists) → Leaf fs k js cs cs'
    taken-leaf {cs'} m =
        becomes js cs cs' opens.long (choices-length lists m) opens.group
        (λ j l. of_map Fixed (or_empty (alignments fs k j)) (rw (opens.all j l) at (of-choices lists m j (opens.group j l))))
        (λ i l none. elim (opens.rest i l) [ inl n ↦ absurd (none n) | inr e ↦ sym (Memᴰ.eq_of_singleton (rw e at (of-choices lists m i l))) ])

    -- Group by group their greatest response is found.
    pub refined-choices : (faults : Faults) → refined faults fs k js cs ≡ greatest (scenario_response faults fs k) (scenarios_of lists)
    refined-choices faults =
        let most = refined-le fs k faults js cs (λ cs' leaf. le-greatest (scenario_response faults fs k) (leaf-taken leaf)) in
        let least = greatest-le (scenarios_of lists) (λ cs' m. leaf-le fs k faults js cs cs' (taken-leaf m)) in
        omega arith

-- ---- and the scenarios of a bound

-- js lists the groups that `fixes` names
pub record Names (fixes : ℕ → Bool) (js : List ℕ) : Type 0 where
  pub group : (j : ℕ) → Mem j js → Mem j (range 1 groups)
  pub named : (j : ℕ) → Mem j js → T (fixes j)
  pub all : (j : ℕ) → Mem j (range 1 groups) → T (fixes j) → Mem j js

-- Any groups are those that a search for them names.
pub listed-named : (js : List ℕ) → ((j : ℕ) → Mem j js → Mem j (range 1 groups)) → Names (λ j. exists (eqb j) js) js
listed-named js group = record { group = group; named = λ j m. named-mem m; all = λ j l t. of-named js t }

module _ (fs : List Frame) (k : Frame) (fixes : ℕ → Bool) (js : List ℕ) (names : Names fixes js) where
  -- Where no group is fixed, these are to take theirs.
  named-opens : Opens fs k (λ j. choices fs k (fixes j) j) js free
  unfolding choices
  named-opens = record { long = refl; group = names.group; all = λ j m. taken j (fixes j) (names.named j m); rest = λ i l. go i l (fixes i) refl }
    where
      taken : (j : ℕ) (b : Bool) → T b → choices fs k b j ≡ map Fixed (or_empty (alignments fs k j))
      taken j true t = refl
      taken j false t = absurd t

      go : (i : ℕ) → Mem i (range 1 groups) → (b : Bool) → fixes i ≡ b → Mem i js ⊎ (choices fs k b i ≡ choice_of free i ∷ [])
      go i l true e = inl (names.all i l (rw e tt))
      go i l false e =
          let (low, high) = of_range 1 groups l in
          inr (ap (λ (c : Choice). c ∷ []) (sym (get_or-replicate groups (i - 1) Any Any (omega arith))))

  -- The scenarios at the end are those of the bound.
  leaf-listed : {cs : List Choice} → Leaf fs k js free cs → Mem cs (scenarios fs k fixes)
  unfolding scenarios
  leaf-listed = leaf-taken fs k (λ j. choices fs k (fixes j) j) js free named-opens

  listed-leaf : {cs : List Choice} → Mem cs (scenarios fs k fixes) → Leaf fs k js free cs
  unfolding scenarios
  listed-leaf = taken-leaf fs k (λ j. choices fs k (fixes j) j) js free named-opens

  -- Group by group the bound is found.
  pub refined-bound : (faults : Faults) → refined faults fs k js free ≡ bound_of faults fs k fixes
  unfolding bound_of scenarios
  refined-bound = refined-choices fs k (λ j. choices fs k (fixes j) j) js free named-opens

-- ---- the approximate bound

module _ (fs : List Frame) {k : Frame} (valid : ValidFrame k) where
  -- The approximate bound fixes k's own group alone.
  own-named : Names (own_group k) (k.group ∷ [])
  own-named =
      record {
        group = λ j m. rw (Memᴰ.eq_of_singleton m) (group-listed valid);
        named = λ j m. rw (Memᴰ.eq_of_singleton m) (eqb_refl k.group);
        all = λ j l t. here (eqb→eq j k.group t);
      }

  -- It is found by that.
  pub approximate-refined : (faults : Faults) → refined faults fs k (k.group ∷ []) free ≡ approximate_bound faults fs k
  approximate-refined = refined-bound fs k (own_group k) (k.group ∷ []) own-named

  -- Its scenarios are those in which the own group has one of its alignments and no other is fixed.
  pub own-scenarios : {cs : List Choice} → Mem cs (scenarios fs k (own_group k)) ↔ ((a : ℕ) × Mem a (or_empty (alignments fs k k.group)) × (cs ≡ set free (k.group - 1) (Fixed a)))
  unfolding Leaf
  own-scenarios = (λ m. listed-leaf fs k (own_group k) (k.group ∷ []) own-named m, λ l. leaf-listed fs k (own_group k) (k.group ∷ []) own-named l)

-- ---- leaving out a branch

-- What a fixed choice allows is that choice.
allowed-fixed : (als : List ℕ) {a : ℕ} (c : Choice) → Allows als (Fixed a) c → c ≡ Fixed a
unfolding Allows
allowed-fixed als (Fixed b) e = ap Fixed (sym e)
allowed-fixed als Any none = absurd none

module _ (fs : List Frame) (k : Frame) (cs cs' : List Choice) (refines : RefinedBy fs k cs cs') where
  -- A scenario that refines cs fixes the same alignment of k's own group.
  pub own-kept : ValidFrame k → {a : ℕ} → choice_of cs k.group ≡ Fixed a → choice_of cs' k.group ≡ Fixed a
  own-kept valid fixed = allowed-fixed (alignments fs k k.group) (choice_of cs' k.group) (rw fixed at (refines k.group (group-listed valid)))

  module _ {j : ℕ} (listed : Mem j (range 1 groups)) {a : ℕ} where
    -- It still does with an alignment more, of a group that cs leaves open.
    pub refines-more : length cs' ≡ groups → choice_of cs j ≡ Any → Mem a (or_empty (alignments fs k j)) → RefinedBy fs k cs (set cs' (j - 1) (Fixed a))
    unfolding Allows
    refines-more long left m i l =
        elim (ℕ_discrete i j) [
          | yes e ↦ rw (e, set_same cs' listed a long, left) m
          | no other ↦ rw (set_other cs' listed a l other) (refines i l)
        ]

    -- Where it has that alignment, it refines cs with that alignment too.
    pub refines-taken : length cs ≡ groups → choice_of cs' j ≡ Fixed a → RefinedBy fs k (set cs (j - 1) (Fixed a)) cs'
    refines-taken long taken i l =
        elim (ℕ_discrete i j) [
          | yes e ↦ rw (e, set_same cs listed a long, taken) (allows-self (alignments fs k j) (Fixed a))
          | no other ↦ rw (set_other cs listed a l other) (refines i l)
        ]

-- A scenario refines itself,
refines-self : (fs : List Frame) (k : Frame) (cs : List Choice) → RefinedBy fs k cs cs
refines-self fs k cs j l = allows-self (alignments fs k j) (choice_of cs j)

-- and it is refined by an alignment of a group that is open.
pub refines-group : (fs : List Frame) (k : Frame) (cs : List Choice) {j : ℕ} → Mem j (range 1 groups) → {a : ℕ} → length cs ≡ groups → choice_of cs j ≡ Any
    → Mem a (or_empty (alignments fs k j)) → RefinedBy fs k cs (set cs (j - 1) (Fixed a))
refines-group fs k cs listed = refines-more fs k cs cs (refines-self fs k cs) listed

-- The groups js are open in cs.
pub record StillOpen (js : List ℕ) (cs : List Choice) : Type 0 where
  pub long : length cs ≡ groups
  pub group : (j : ℕ) → Mem j js → Mem j (range 1 groups)
  pub left : (j : ℕ) → Mem j js → choice_of cs j ≡ Any

module _ {fs : List Frame} (valid : Valid fs) {k : ℕ} (inside : k < length fs) where
  abbrev f : Frame
  f = row fs k

  -- No scenario that refines one with a window has a greater response, where the frame's own group is fixed.
  response-below : (faults : Faults) (cs cs' : List Choice) → RefinedBy fs f cs cs' → {a : ℕ} → choice_of cs f.group ≡ Fixed a → {l : ℕ} → busy_window faults fs f cs ≡ Some l
      → scenario_response faults fs f cs' ≤ scenario_response faults fs f cs
  response-below faults cs cs' refines {a} own {l} window = response-refine valid inside faults cs cs' refines l window a own (own-kept fs f cs cs' refines (valid.frame k inside) own)

  -- cs' refines cs, and cs leaves the groups js open
  record Finer (cs : List Choice) (js : List ℕ) (cs' : List Choice) : Type 0 where
    long : length cs' ≡ groups
    group : (j : ℕ) → Mem j js → Mem j (range 1 groups)
    left : (j : ℕ) → Mem j js → choice_of cs j ≡ Any
    refines : RefinedBy fs f cs cs'

  -- one more group takes its alignment
  finer-more : (cs : List Choice) (j : ℕ) (js : List ℕ) (cs' : List Choice) (a : ℕ) → Mem a (or_empty (alignments fs f j)) → Finer cs (j ∷ js) cs' → Finer cs js (set cs' (j - 1) (Fixed a))
  finer-more cs j js cs' a m p =
      record {
        long = length-set cs' (j - 1) (Fixed a) ∙ p.long;
        group = λ i l. p.group i (there l);
        left = λ i l. p.left i (there l);
        refines = refines-more fs f cs cs' p.refines (p.group j (here refl)) p.long (p.left j (here refl)) m;
      }

  -- A scenario fixes the frame's own group and has a window; the groups js are still open.
  module _ {js : List ℕ} {cs : List Choice} (still : StillOpen js cs) (own : (a : ℕ) × (choice_of cs f.group ≡ Fixed a)) (faults : Faults) (l : ℕ) (window : busy_window faults fs f cs ≡ Some l) where
    -- nothing is refined yet
    unrefined : Finer cs js cs
    unrefined = record { long = still.long; group = still.group; left = still.left; refines = refines-self fs f cs }

    -- The branch may be left out where that has no greater response than what is found.
    pub open-pruned : refined faults fs f js cs ≤ scenario_response faults fs f cs
    open-pruned =
        refined-le fs f faults js cs (λ cs' leaf. response-below faults cs cs' (leaf-keeps fs f (Finer cs) (finer-more cs) js unrefined leaf).refines own.1 window)
