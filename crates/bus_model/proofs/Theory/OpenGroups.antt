-- A search that fixes the open groups of a scenario one after the other: k's own first, then the others, rising.
-- From no group fixed it finds the bounds, and from some alignments the greatest response with these.
use Prim.Native.Nat.{ℕ, zero, suc, ◌-◌, ◌≤◌, ◌<◌}
use Rattle.std.proofs.Math.Path.{◌≡◌, refl, sym, ap, subst, fun_ext}
use Rattle.std.proofs.Common.{◌∙◌, arith}
use mathlib.Core.List.Memᴰ.{head as here}
use mathlib.Core.List.Memᴰ.{tail as there}
use mathlib.Core.List.{List, [], ◌∷◌, Memᴰ as Mem}
use Rattle.std.specs.Prelude.{Bool, ◌&&◌, eqb, length, set, take, Some, None}
use Rattle.std.proofs.Math.Bool.{true, false, not, cond}
use Rattle.std.proofs.Math.Decide.{ℕ_discrete}
use Rattle.std.proofs.Math.Dec.{T, eqb_refl}
use Rattle.std.proofs.lemmas.List.{get_or-replicate}
use Rattle.std.proofs.Math.Seq.{take_all}
use Rattle.arith.specs.Lists.{greatest, keep, range}
use Rattle.arith.specs.Least.{least}
use Rattle.arith.specs.Laws.Tests.{same_test, differs}
use Rattle.arith.specs.Laws.Members.{Apart, apart-keep, of-keep, keep_same, keep_all, keep-keep, of-take, of_range}
use Rattle.arith.specs.Laws.Walks.{keep-next, keep-end}
use Rattle.bus_model.specs.Frame.{row}
use Rattle.bus_model.specs.Valid.{ValidFrame, Valid}
use Rattle.bus_model.specs.Bounds.{groups, alignments, or_empty, choice_of, own_group, every_group, busy_window, scenario_response, approximate_bound, precise_bound}
use Rattle.bus_model.specs.Levels.{fixing_order}
use Rattle.bus_model.proofs.Theory.Frames.{group-listed}
use Rattle.bus_model.specs.Theory.Work.{Allows, RefinedBy}
use Rattle.bus_model.proofs.Theory.Response.{window-refine}
use Rattle.bus_model.proofs.Theory.Scenarios.{Windowed, allows-self}
use Rattle.bus_model.proofs.Theory.Order.{order-group, order-all, order-apart, order-length}
use Rattle.bus_model.specs.Theory.Refine.{refined, free}
use Rattle.bus_model.proofs.Theory.Refine.{approximate-refined, set_same, set_other, StillOpen, refines-more, refined-bound, own-scenarios, refines-taken, open-pruned}
use Rattle.bus_model.proofs.Theory.Turns.{first_turn, refined-turn}
use Rattle.bus_model.specs.declared.Frame.{Frame}
use Rattle.bus_model.specs.declared.Faults.{Faults}
use Rattle.bus_model.specs.declared.Choice.{Choice}
use Rattle.bus_model.specs.declared.Choice.TheVariants.{Fixed, Any}
use Rattle.bus_model.specs.Theory.OpenGroups.{is_any, is_open, open_groups, next_open, fixing_more}

-- ---- which groups are open

-- A choice that does is `Any`.
pub open_any : (c : Choice) → T (is_any c) → c ≡ Any
open_any (Fixed a) t = absurd t
open_any Any t = refl

-- Where a group is fixed, that one is no longer open.
pub open-set : (cs : List Choice) → length cs ≡ groups → {j : ℕ} → Mem j (range 1 groups) → (a : ℕ) {i : ℕ} → Mem i (range 1 groups)
    → is_open (set cs (j - 1) (Fixed a)) i ≡ (not (eqb i j) && is_open cs i)
open-set cs long {j} listed a {i} m =
    elim (ℕ_discrete i j) [
      | yes e ↦ rw (e, set_same cs listed a long) (closed (eqb j j) (eqb_refl j))
      | no other ↦ rw (set_other cs listed a m other) (kept (not (eqb i j)) (differs i j other))
    ]
  where
    closed : (b : Bool) → T b → false ≡ (not b && is_open cs j)
    closed true t = refl
    closed false t = absurd t

    kept : (b : Bool) → T b → is_open cs i ≡ (b && is_open cs i)
    kept true t = refl
    kept false t = absurd t

module _ {k : Frame} (valid : ValidFrame k) (cs : List Choice) (long : length cs ≡ groups) where
  -- The open groups are groups, and open.
  pub open-groups : StillOpen (open_groups k cs) cs
  unfolding open_groups
  open-groups =
      record {
        long = long;
        group = λ j m. order-group valid (of-keep (is_open cs) (fixing_order k) m).0;
        left = λ j m. open_any (choice_of cs j) (of-keep (is_open cs) (fixing_order k) m).1;
      }

  -- Where the first of them is fixed, the others are left.
  open-rest : {j : ℕ} {js : List ℕ} → open_groups k cs ≡ j ∷ js → (a : ℕ) → open_groups k (set cs (j - 1) (Fixed a)) ≡ js
  unfolding open_groups Apart keep
  open-rest {j} {js} e a =
      let listed : Mem j (range 1 groups) = open-groups.group j (rw e (here refl)) in
      let apart : Apart (j ∷ js) = subst Apart e (apart-keep (is_open cs) (fixing_order k) (order-apart valid)) in
      keep_same (fixing_order k) (λ i m. open-set cs long listed a (order-group valid m))
      ∙ sym (keep-keep (is_open cs) (λ i. not (eqb i j)) (fixing_order k))
      ∙ ap (keep (λ i. not (eqb i j))) e
      ∙ go (eqb j j) (eqb_refl j)
      ∙ keep_all (λ i. not (eqb i j)) js (λ i m. differs i j (λ same. apart.0 (rw same at m)))
    where
      go : (b : Bool) → T b → cond (not b) (j ∷ keep (λ i. not (eqb i j)) js) (keep (λ i. not (eqb i j)) js) ≡ keep (λ i. not (eqb i j)) js
      go true t = refl
      go false t = absurd t

  -- Where k's own is fixed, they rise.
  open-rising : is_open cs k.group ≡ false → open_groups k cs ≡ keep (is_open cs) (range 1 groups)
  unfolding open_groups fixing_order keep
  open-rising closed =
      rw closed (keep-keep (λ j. not (eqb j k.group)) (is_open cs) (range 1 groups)
      ∙ keep_same (range 1 groups) (λ j m. same_test _ _ (left (is_open cs j) _) (λ t. both (is_open cs j) _ t (differs j k.group (λ e. subst T (ap (is_open cs) e ∙ closed) t)))))
    where
      left : (b c : Bool) → T (b && c) → T b
      left true c t = tt
      left false c t = t

      both : (b c : Bool) → T b → T c → T (b && c)
      both true c t u = u
      both false c t u = t

  -- The next is the first of them;
  pub open_next : {j : ℕ} → next_open k cs ≡ Some j → (js : List ℕ) × (open_groups k cs ≡ j ∷ js)
  unfolding next_open open_groups fixing_order keep
  open_next {j} e = go (is_open cs k.group) refl e
    where
      go : (b : Bool) → is_open cs k.group ≡ b → cond b (Some k.group) (least (is_open cs) groups 1) ≡ Some j → (js : List ℕ) × (open_groups k cs ≡ j ∷ js)
      go true t is = let same : k.group ≡ j = cc in let rest = keep (is_open cs) (keep (λ (i : ℕ). not (eqb i k.group)) (range 1 groups)) in (rest, rw t (ap (λ (g : ℕ). g ∷ rest) same))
      go false t is = (keep (is_open cs) (range (suc j) (17 - suc j)), open-rising t ∙ keep-next (is_open cs) 17 1 j is)

  -- it is a group, and open;
  pub next-open : {j : ℕ} → next_open k cs ≡ Some j → Mem j (range 1 groups) × (choice_of cs j ≡ Any)
  next-open {j} e = let (js, is) = open_next e in let m : Mem j (open_groups k cs) = rw is (here refl) in (open-groups.group j m, open-groups.left j m)

  -- where there is none, there are none.
  pub open_none : next_open k cs ≡ None → open_groups k cs ≡ []
  unfolding next_open
  open_none e = go (is_open cs k.group) refl e
    where
      go : (b : Bool) → is_open cs k.group ≡ b → cond b (Some k.group) (least (is_open cs) groups 1) ≡ None → open_groups k cs ≡ []
      go true t is = let z : ◌≡◌ {A = ℕ} 0 1 = cc in absurd (omega arith)
      go false t is = open-rising t ∙ keep-end (is_open cs) 17 1 is

  -- ---- the search

  -- It ends where no more are to be fixed,
  pub more-end : (faults : Faults) (fs : List Frame) → fixing_more faults fs k 0 cs ≡ scenario_response faults fs k cs
  unfolding fixing_more refined
  more-end faults fs = refl

  -- or where none is left.
  pub more-none : (faults : Faults) (fs : List Frame) (m : ℕ) → next_open k cs ≡ None → fixing_more faults fs k m cs ≡ scenario_response faults fs k cs
  unfolding fixing_more refined
  more-none faults fs m none = rw (open_none none) (go m)
    where
      go : (n : ℕ) → refined faults fs k (take n []) cs ≡ scenario_response faults fs k cs
      go zero = refl
      go (suc n) = refl

  -- With the next group at an alignment the others are to follow.
  then-others : (faults : Faults) (fs : List Frame) (m : ℕ) {j : ℕ} {js : List ℕ} → open_groups k cs ≡ j ∷ js
      → ◌≡◌ {A = ℕ → ℕ} (λ a. refined faults fs k (take m js) (set cs (j - 1) (Fixed a))) (λ a. fixing_more faults fs k m (set cs (j - 1) (Fixed a)))
  unfolding fixing_more
  then-others faults fs m {j} {js} e = fun_ext (λ a. ap (λ (is : List ℕ). refined faults fs k (take m is) (set cs (j - 1) (Fixed a))) (sym (open-rest e a)))

  -- The next group takes each of its alignments.
  pub more-step : (faults : Faults) (fs : List Frame) (m : ℕ) {j : ℕ} → next_open k cs ≡ Some j
      → fixing_more faults fs k (suc m) cs ≡ greatest (λ a. fixing_more faults fs k m (set cs (j - 1) (Fixed a))) (or_empty (alignments fs k j))
  unfolding fixing_more refined
  more-step faults fs m {j} next =
      let (js, e) = open_next next in
      rw e (ap (λ (h : ℕ → ℕ). greatest h (or_empty (alignments fs k j))) (then-others faults fs m e))

-- ---- what it finds

-- In the beginning all groups are open.
pub free_open : (j : ℕ) → Mem j (range 1 groups) → choice_of free j ≡ Any
free_open j l = let (low, high) = of_range 1 groups l in get_or-replicate groups (j - 1) Any Any (omega arith)

-- What refines it, its alignments being such, still does with an alignment more.
pub free-refined : (fs : List Frame) (k : Frame) → RefinedBy fs k free free
free-refined fs k j l = allows-self (alignments fs k j) (choice_of free j)

pub more-refined : (fs : List Frame) (k : Frame) (cs : List Choice) → RefinedBy fs k free cs → length cs ≡ groups → {j a : ℕ} → Mem j (range 1 groups)
    → Mem a (or_empty (alignments fs k j)) → RefinedBy fs k free (set cs (j - 1) (Fixed a))
more-refined fs k cs refines long {j} listed m = refines-more fs k free cs refines listed long (free_open j listed) m

-- The open groups then are all, in their order.
pub all-open : {k : Frame} → ValidFrame k → open_groups k free ≡ fixing_order k
unfolding open_groups
all-open {k} valid = keep_all (is_open free) (fixing_order k) (λ j m. rw (free_open j (order-group valid m)) tt)

module _ (fs : List Frame) {k : Frame} (valid : ValidFrame k) where
  -- The approximate bound, where one group is fixed,
  pub approximate-more : (faults : Faults) → fixing_more faults fs k 1 free ≡ approximate_bound faults fs k
  unfolding fixing_more fixing_order range
  approximate-more faults = ap (λ (js : List ℕ). refined faults fs k (take 1 js) free) (all-open valid) ∙ approximate-refined fs valid faults

  -- and the precise one, where all are.
  pub precise-more : (faults : Faults) → fixing_more faults fs k groups free ≡ precise_bound faults fs k
  unfolding fixing_more
  precise-more faults =
      ap (λ (js : List ℕ). refined faults fs k js free) (ap (take groups) (all-open valid) ∙ take_all groups (fixing_order k) (order-length valid))
      ∙ refined-bound fs k every_group (fixing_order k) (record { group = λ j m. order-group valid m; named = λ j m. tt; all = λ j m t. order-all valid m }) faults

module _ {fs : List Frame} (valid : Valid fs) {k : ℕ} (inside : k < length fs) where
  abbrev f : Frame
  f = row fs k

  self : ValidFrame f
  self = valid.frame k inside

  module _ (cs : List Choice) (long : length cs ≡ groups) where
    -- what of the open groups is to be fixed is open
    more-open : (m : ℕ) → StillOpen (take m (open_groups f cs)) cs
    more-open m =
        let all = open-groups self cs long in
        record {
          long = long;
          group = λ j l. all.group j (of-take m (open_groups f cs) l);
          left = λ j l. all.left j (of-take m (open_groups f cs) l);
        }

    -- The next group need only take the alignments of its first turn.
    pub more_turn : (faults : Faults) (m : ℕ) {j : ℕ} → next_open f cs ≡ Some j
        → fixing_more faults fs f (suc m) cs ≡ greatest (λ a. fixing_more faults fs f m (set cs (j - 1) (Fixed a))) (or_empty (first_turn fs f j))
    more_turn faults m {j} next =
        let (js, e) = open_next self cs long next in
        let all = open-groups self cs long in
        let same = then-others self cs long faults fs m e in
        more-step self cs long faults fs m next
        ∙ ap (λ (h : ℕ → ℕ). greatest h (or_empty (alignments fs f j))) (sym same)
        ∙ sym (refined-turn valid inside cs long j (all.group j (rw e (here refl))) faults (take m js) (λ i l. all.group i (rw e (there (of-take m js l)))))
        ∙ ap (λ (h : ℕ → ℕ). greatest h (or_empty (first_turn fs f j))) same

    -- ---- which branches may be left out, where the frame's own group is fixed and the scenario has a window

    module _ (own : (a : ℕ) × (choice_of cs f.group ≡ Fixed a)) (faults : Faults) (l : ℕ) (window : busy_window faults fs f cs ≡ Some l) where
      -- where the scenario has no greater response than what is found
      pub more-pruned : (m : ℕ) → fixing_more faults fs f m cs ≤ scenario_response faults fs f cs
      unfolding fixing_more
      more-pruned m = open-pruned valid inside (more-open m) own faults l window

    -- It has one, where the approximate bound's scenarios have, and its alignments are such.
    pub more-window : (faults : Faults) → Windowed faults fs f (own_group f) → RefinedBy fs f free cs → {a : ℕ} → choice_of cs f.group ≡ Fixed a
        → (l : ℕ) × (busy_window faults fs f cs ≡ Some l)
    unfolding Allows
    more-window faults windows refines {a} own =
        let listed = group-listed self in
        let real : Mem a (or_empty (alignments fs f f.group)) = rw (free_open f.group listed, own) at (refines f.group listed) in
        let (l, e) = windows _ ((own-scenarios fs self).1 (a, real, refl)) in
        let (l', e', shorter) = window-refine valid inside faults _ cs (refines-taken fs f free cs refines listed refl own) l e in
        (l', e')
