-- How code finds the first case that breaks a claim: group by group, rising, the first alignment with which some scenario exceeds the
-- claim. That is told by the greatest response with these alignments, which a search of the open groups finds.
use Prim.Native.Nat.{ℕ, suc, ◌+◌, ◌-◌, ◌%◌, ◌≤◌, ◌<◌}
use Rattle.std.specs.Prelude.{◌≡◌, ◌⊎◌, set, take, Option, Some, None}
use Rattle.std.proofs.Math.Path.{refl, sym, ap}
use Rattle.std.proofs.Common.{subst, ◌∙◌, arith, add-one, zero-add, length-set, take_all}
use mathlib.Core.List.Memᴰ
use mathlib.Core.List.Memᴰ.{head as here}
use mathlib.Core.List.Memᴰ.{tail as there}
use mathlib.Core.List.{List, [], ◌∷◌, ◌++◌, map, flat_map, append-nil, Memᴰ as Mem}
use Rattle.std.proofs.Math.Logic.{inl, inr}
use Rattle.std.proofs.Math.Nat.{le_trans}
use Rattle.std.proofs.Math.Decide.{ℕ_discrete, dec_le}
use Rattle.std.proofs.Math.ListN.{length}
use Rattle.std.proofs.lemmas.Option.{none-some}
use Rattle.arith.specs.Lists.{greatest, keep, range, combinations}
use Rattle.arith.specs.Laws.Members.{mem-keep, of-take, keep_same, keep_append, keep-le, range-append, of_range, mem-range, map_same}
use Rattle.arith.specs.Least.{least, or_zero}
use Rattle.arith.specs.Laws.Walks.{Walk, walk_more, keep-end}
use Rattle.arith.specs.Laws.Sums.{le-greatest, greatest-exceeds}
use Rattle.arith.specs.Laws.Combinations.{flat_map-append, combinations-one, combinations-split}
use Rattle.bus_model.specs.Frame.{row}
use Rattle.bus_model.specs.Valid.{ValidFrame, Valid}
use Rattle.bus_model.specs.Pattern.{of_group, hyperperiod}
use Rattle.bus_model.specs.Bounds.{groups, alignments, or_empty, choice_of, choices, scenarios, every_group, scenario_response}
use Rattle.bus_model.specs.Levels.{fixing_order}
use Rattle.bus_model.specs.Case.{or_else, case_in, first_among, first_case}
use Rattle.bus_model.specs.Theory.Scenarios.{scenarios_of}
use Rattle.bus_model.proofs.Theory.Scenarios.{scenario-is}
use Rattle.bus_model.proofs.Theory.Order.{order-group, order-all, order-length}
use Rattle.bus_model.proofs.Theory.Cases.{Exists, else-first, else-second, else-none, among-append, among_none, among-some}
use Rattle.bus_model.specs.Theory.Refine.{refined, free}
use Rattle.bus_model.proofs.Theory.Refine.{set_same, set_other, refined-choices}
use Rattle.bus_model.specs.Theory.Visits.{is_alignment}
use Rattle.bus_model.specs.Theory.Turns.{turn}
use Rattle.bus_model.proofs.Theory.Turns.{visit-first, found-listed, first-listed, first_turn, turn-le, first-alignment, turned-alignment, alike-turn, refined-alike}
use Rattle.bus_model.specs.Theory.OpenGroups.{is_open, open_groups, fixing_more}
use Rattle.bus_model.proofs.Theory.OpenGroups.{open-set, open-groups, free_open}
use Rattle.bus_model.specs.declared.Frame.{Frame}
use Rattle.bus_model.specs.declared.Faults.{Faults}
use Rattle.bus_model.specs.declared.Choice.{Choice}
use Rattle.bus_model.specs.declared.Choice.TheVariants.{Fixed, Any}
use Rattle.bus_model.specs.declared.Case.{Case}
use Rattle.bus_model.specs.Theory.FirstCase.{completing, completions, Prefix}

module _ (fs : List Frame) (k : Frame) where
  completing-fixed : (j : ℕ) {c : Choice} {a : ℕ} → c ≡ Fixed a → completing fs k j c ≡ c ∷ []
  unfolding completing
  completing-fixed j e = rw e

  completing-any : (j : ℕ) {c : Choice} → c ≡ Any → completing fs k j c ≡ map Fixed (or_empty (alignments fs k j))
  unfolding completing
  completing-any j e = rw e

  -- Where no group is fixed, they are all scenarios of the precise bound.
  pub completions-free : completions fs k free ≡ scenarios fs k every_group
  unfolding completions scenarios choices
  completions-free = ap (λ (lists : List (List Choice)). combinations lists) (map_same (range 1 groups) (λ j m. completing-any j (free_open j m)))

  -- Their greatest response is that where all open groups take each of their alignments.
  pub completions-most : (faults : Faults) → ValidFrame k → (cs : List Choice) → length cs ≡ groups → fixing_more faults fs k groups cs ≡ greatest (scenario_response faults fs k) (completions fs k cs)
  unfolding fixing_more completions open_groups
  completions-most faults valid cs long =
      let few : length (open_groups k cs) ≤ groups = le_trans (keep-le (is_open cs) (fixing_order k)) (order-length valid) in
      ap (λ (js : List ℕ). refined faults fs k js cs) (take_all groups (open_groups k cs) few)
      ∙ refined-choices fs k (λ j. completing fs k j (choice_of cs j)) (open_groups k cs) cs (record {
        long = long;
        group = (open-groups valid cs long).group;
        all = λ j m. completing-any j ((open-groups valid cs long).left j m);
        rest = λ i m. go i m (choice_of cs i) refl;
      }) faults
    where
      go : (i : ℕ) → Mem i (range 1 groups) → (c : Choice) → choice_of cs i ≡ c → Mem i (open_groups k cs) ⊎ (completing fs k i (choice_of cs i) ≡ choice_of cs i ∷ [])
      go i m (Fixed a) e = inr (completing-fixed i e)
      go i m Any e = inl (mem-keep (is_open cs) (order-all valid m) (rw e tt))

-- It starts at the first.
pub prefix-start : Prefix 1 free
prefix-start = record { long = refl; fixed = λ i m less. let (low, high) = of_range 1 groups m in absurd (omega arith); left = λ i m le. free_open i m }

-- It goes on by an alignment of the group.
pub prefix-more : {j : ℕ} {cs : List Choice} → Prefix j cs → Mem j (range 1 groups) → (a : ℕ) → Prefix (j + 1) (set cs (j - 1) (Fixed a))
prefix-more {j} {cs} p listed a =
    record {
      long = length-set cs (j - 1) (Fixed a) ∙ p.long;
      fixed = λ i m less. elim (ℕ_discrete i j) [
        | yes same ↦ (a, rw same (set_same cs listed a p.long))
        | no other ↦ let (b, e) = p.fixed i m (omega arith) in (b, set_other cs listed a m other ∙ e)
      ];
      left = λ i m after. set_other cs listed a m (λ same. omega arith) ∙ p.left i m (omega arith);
    }

module _ (fs : List Frame) (k : Frame) (cs : List Choice) where
  -- Where all are fixed, there is one scenario.
  pub completions-last : Prefix 17 cs → completions fs k cs ≡ cs ∷ []
  unfolding completions
  completions-last p =
      combinations-one (λ j. completing fs k j (choice_of cs j)) (choice_of cs) (range 1 groups)
      (λ j m. let (low, high) = of_range 1 groups m in completing-fixed fs k j (p.fixed j m (omega arith)).1)
      ∙ ap (λ (ds : List Choice). ds ∷ []) (scenario-is cs p.long)

  -- Where group j is the first that is open, its alignments come one after the other.
  pub completions-split : {j : ℕ} → Prefix j cs → Mem j (range 1 groups)
      → completions fs k cs ≡ flat_map (λ a. completions fs k (set cs (j - 1) (Fixed a))) (or_empty (alignments fs k j))
  unfolding completions
  completions-split {j} p listed =
      let (low, high) = of_range 1 groups listed in
      combinations-split (λ i. completing fs k i (choice_of cs i)) Fixed (or_empty (alignments fs k j)) (λ a i. completing fs k i (choice_of (set cs (j - 1) (Fixed a)) i)) (choice_of cs) j
      1 groups low high
      (λ i l less. completing-fixed fs k i (p.fixed i (mem-range 1 groups i l (omega arith)) less).1)
      (completing-any fs k j (p.left j listed (omega arith)))
      (λ a i l h other. ap (completing fs k i) (set_other cs listed a (mem-range 1 groups i l h) other))
      (λ a. completing-fixed fs k j (set_same cs listed a p.long) ∙ ap (λ (c : Choice). c ∷ []) (set_same cs listed a p.long))

-- ---- the first case with the alignments that are fixed

-- among the scenarios with group j at one of these alignments
unfoldable pub first_with : Faults → List Frame → Frame → ℕ → List Choice → ℕ → List ℕ → Option Case
first_with faults fs k claim cs j als = first_among faults fs k claim (flat_map (λ a. completions fs k (set cs (j - 1) (Fixed a))) als)

module _ (faults : Faults) (fs : List Frame) (k : Frame) (claim : ℕ) where
  -- At the start it is the first of all.
  pub case-start : first_among faults fs k claim (completions fs k free) ≡ first_case faults fs k claim
  unfolding first_case
  case-start = ap (first_among faults fs k claim) (completions-free fs k)

  module _ (cs : List Choice) where
    -- At the end it is the scenario's.
    pub case-last : Prefix 17 cs → first_among faults fs k claim (completions fs k cs) ≡ case_in faults fs k claim cs
    unfolding first_among
    case-last p = rw (completions-last fs k cs p) (else-none (case_in faults fs k claim cs))

    module _ (valid : ValidFrame k) (long : length cs ≡ groups) (j : ℕ) where
      -- the scenario with the group at alignment a
      abbrev put : ℕ → List Choice
      put a = set cs (j - 1) (Fixed a)

      at_most : (a : ℕ) → fixing_more faults fs k groups (put a) ≡ greatest (scenario_response faults fs k) (completions fs k (put a))
      at_most a = completions-most fs k faults valid (put a) (length-set cs (j - 1) (Fixed a) ∙ long)

      -- No scenario with an alignment exceeds the claim: there is none with it.
      none-with : (a : ℕ) → fixing_more faults fs k groups (put a) ≤ claim → first_among faults fs k claim (completions fs k (put a)) ≡ None
      none-with a within = among_none faults fs k claim (completions fs k (put a)) (λ ds m. le_trans (le-greatest (scenario_response faults fs k) m) (rw (at_most a) at within))

      -- One does: there is one.
      some_with : (a : ℕ) → claim < fixing_more faults fs k groups (put a) → Exists (first_among faults fs k claim (completions fs k (put a)))
      some_with a over =
          let (ds, m, more) = greatest-exceeds (scenario_response faults fs k) claim (completions fs k (put a)) (rw (at_most a) at over) in
          among-some faults fs k claim m more

      with-cons : (a : ℕ) (als : List ℕ) → first_with faults fs k claim cs j (a ∷ als) ≡ or_else (first_among faults fs k claim (completions fs k (put a))) (first_with faults fs k claim cs j als)
      unfolding first_with flat_map
      with-cons a als = among-append faults fs k claim (completions fs k (put a)) _

      -- An alignment with which none exceeds is passed over;
      pub with-skip : (a : ℕ) (als : List ℕ) → fixing_more faults fs k groups (put a) ≤ claim → first_with faults fs k claim cs j (a ∷ als) ≡ first_with faults fs k claim cs j als
      with-skip a als within =
          with-cons a als ∙ else-second (first_among faults fs k claim (completions fs k (put a))) (first_with faults fs k claim cs j als) (none-with a within)

      -- the first with which one does is taken.
      pub with-take : (a : ℕ) (als : List ℕ) → claim < fixing_more faults fs k groups (put a) → first_with faults fs k claim cs j (a ∷ als) ≡ first_among faults fs k claim (completions fs k (put a))
      with-take a als over = with-cons a als ∙ else-first (first_among faults fs k claim (completions fs k (put a))) (first_with faults fs k claim cs j als) (some_with a over)

      -- The last one is taken untested: where none exceeds with it, there is none.
      pub with-last : (a : ℕ) → first_with faults fs k claim cs j (a ∷ []) ≡ first_among faults fs k claim (completions fs k (put a))
      unfolding first_with flat_map
      with-last a = ap (first_among faults fs k claim) (append-nil (completions fs k (put a)))

      -- Where none exceeds with any of them, there is none,
      with-within : (als : List ℕ) → ((a : ℕ) → Mem a als → fixing_more faults fs k groups (put a) ≤ claim) → first_with faults fs k claim cs j als ≡ None
      unfolding first_with flat_map first_among
      with-within [] within = refl
      with-within (a ∷ als) within = with-skip a als (within a (here refl)) ∙ with-within als (λ b m. within b (there m))

      -- and where there is none, none exceeds.
      within_of : (als : List ℕ) → first_with faults fs k claim cs j als ≡ None → (a : ℕ) → Mem a als → fixing_more faults fs k groups (put a) ≤ claim
      within_of [] none a m = absurd (Memᴰ.not-nil m)
      within_of (b ∷ als) none a m =
          elim (dec_le (fixing_more faults fs k groups (put b)) claim) [
            | yes within ↦ elim (Memᴰ.cases_cons m) [
              | inl e ↦ rw e within
              | inr n ↦ within_of als (sym (with-skip b als within) ∙ none) a n
            ]
            | no over ↦
                let exceeds : claim < fixing_more faults fs k groups (put b) = omega arith in
                let (c, e) = some_with b exceeds in
                absurd (none-some c (sym none ∙ with-take b als exceeds ∙ e))
          ]

      with_append : (als bls : List ℕ) → first_with faults fs k claim cs j (als ++ bls) ≡ or_else (first_with faults fs k claim cs j als) (first_with faults fs k claim cs j bls)
      unfolding first_with
      with_append als bls =
          let at : ℕ → List (List Choice) = λ a. completions fs k (put a) in
          ap (first_among faults fs k claim) (flat_map-append at als bls) ∙ among-append faults fs k claim (flat_map at als) (flat_map at bls)

      -- More alignments add nothing, if none of them exceeds unless one before does.
      with-more : (als bls : List ℕ) → (((a : ℕ) → Mem a als → fixing_more faults fs k groups (put a) ≤ claim) → (a : ℕ) → Mem a bls → fixing_more faults fs k groups (put a) ≤ claim)
          → first_with faults fs k claim cs j als ≡ first_with faults fs k claim cs j (als ++ bls)
      with-more als bls follows = go (first_with faults fs k claim cs j als) refl
        where
          go : (o : Option Case) → first_with faults fs k claim cs j als ≡ o → first_with faults fs k claim cs j als ≡ first_with faults fs k claim cs j (als ++ bls)
          go (Some c) e = sym (with_append als bls ∙ else-first (first_with faults fs k claim cs j als) (first_with faults fs k claim cs j bls) (c, e))
          go None e =
              let within = within_of als e in
              with-within als within ∙ sym (with_append als bls ∙ else-second (first_with faults fs k claim cs j als) (first_with faults fs k claim cs j bls) e ∙ with-within bls (follows within))

    -- Among all alignments it is the first.
    pub with_all : {j : ℕ} → Prefix j cs → Mem j (range 1 groups) → first_with faults fs k claim cs j (or_empty (alignments fs k j)) ≡ first_among faults fs k claim (completions fs k cs)
    unfolding first_with
    with_all p listed = ap (first_among faults fs k claim) (sym (completions-split fs k cs p listed))

-- ---- the alignments of the first turn suffice

module _ {fs : List Frame} (valid : Valid fs) {k : ℕ} (inside : k < length fs) (cs : List Choice) (long : length cs ≡ groups) (j : ℕ) (listed : Mem j (range 1 groups)) where
  abbrev f : Frame
  f = row fs k

  self : ValidFrame f
  self = valid.frame k inside

  -- the scenario with the group at alignment a
  abbrev here-at : ℕ → List Choice
  here-at a = set cs (j - 1) (Fixed a)

  here-long : (a : ℕ) → length (here-at a) ≡ groups
  here-long a = length-set cs (j - 1) (Fixed a) ∙ long

  -- Which groups are open then does not depend on the alignment.
  same-open : (a b : ℕ) → open_groups f (here-at a) ≡ open_groups f (here-at b)
  unfolding open_groups
  same-open a b = keep_same (fixing_order f) (λ i m. open-set cs long listed a (order-group self m) ∙ sym (open-set cs long listed b (order-group self m)))

  -- The greatest response with an alignment is that with the same one of the first turn.
  pub more-alike : (faults : Faults) (m a : ℕ) → fixing_more faults fs f m (here-at (a % turn fs f j)) ≡ fixing_more faults fs f m (here-at a)
  unfolding fixing_more
  more-alike faults m a =
      ap (λ (js : List ℕ). refined faults fs f (take m js) (here-at (a % turn fs f j))) (same-open (a % turn fs f j) a)
      ∙ refined-alike valid inside faults (take m (open_groups f (here-at a))) (λ i l. (open-groups self (here-at a) (here-long a)).group i (of-take m (open_groups f (here-at a)) l))
      (here-at (a % turn fs f j)) (here-at a) (alike-turn valid inside cs long j listed a) (here-long (a % turn fs f j)) (here-long a)

  -- The first case with an alignment of the group is one with an alignment of its first turn.
  pub with-turn : (faults : Faults) (claim : ℕ) → first_with faults fs f claim cs j (or_empty (first_turn fs f j)) ≡ first_with faults fs f claim cs j (or_empty (alignments fs f j))
  unfolding alignments first_turn or_empty
  with-turn faults claim = go (first_turn fs f j) refl (alignments fs f j) refl
    where
      later : List ℕ
      later = keep (is_alignment fs f j) (range (turn fs f j) (hyperperiod (of_group fs j) - turn fs f j))

      split : alignments fs f j ≡ first_turn fs f j ++ later
      split =
          let all : turn fs f j + (hyperperiod (of_group fs j) - turn fs f j) ≡ hyperperiod (of_group fs j) = omega (arith, turn-le valid f j) in
          let parts : range 0 (turn fs f j + (hyperperiod (of_group fs j) - turn fs f j)) ≡ range 0 (turn fs f j) ++ range (turn fs f j) (hyperperiod (of_group fs j) - turn fs f j)
          = rw zero-add at (range-append 0 (turn fs f j) (hyperperiod (of_group fs j) - turn fs f j)) in
          ap (λ (n : ℕ). keep (is_alignment fs f j) (range 0 n)) (sym all) ∙ ap (keep (is_alignment fs f j)) parts ∙ keep_append (is_alignment fs f j) (range 0 (turn fs f j)) (range (turn fs f j) (hyperperiod (of_group fs j) - turn fs f j))

      follows : ((a : ℕ) → Mem a (first_turn fs f j) → fixing_more faults fs f groups (here-at a) ≤ claim) → (a : ℕ) → Mem a later → fixing_more faults fs f groups (here-at a) ≤ claim
      follows within a m = rw (more-alike faults groups a) at (within (a % turn fs f j) (turned-alignment valid f j (rw split (Memᴰ.append_right (first_turn fs f j) m))))

      go : (xs : List ℕ) → first_turn fs f j ≡ xs → (ys : List ℕ) → alignments fs f j ≡ ys → first_with faults fs f claim cs j (or_empty xs) ≡ first_with faults fs f claim cs j (or_empty ys)
      go [] e [] e' = refl
      go [] e (y ∷ ys) e' = absurd (Memᴰ.not-nil (subst (Mem _) e (turned-alignment valid f j (subst (Mem y) (sym e') (here refl)))))
      go (x ∷ xs) e [] e' = absurd (Memᴰ.not-nil (subst (Mem x) e' (first-alignment valid f j (subst (Mem x) (sym e) (here refl)))))
      go (x ∷ xs) e (y ∷ ys) e' = with-more faults fs f claim cs self long j (x ∷ xs) later (λ w. follows (rw e w)) ∙ ap (first_with faults fs f claim cs j) (sym (sym e' ∙ split ∙ ap (λ zs. zs ++ later) e))

-- ---- a visit of the group's alignments

module _ (faults : Faults) {fs : List Frame} (valid : Valid fs) {k : ℕ} (inside : k < length fs) (claim : ℕ) (cs : List Choice) where
  abbrev h : Frame
  h = row fs k

  -- It stands at a: with none before a does a response exceed the claim.
  pub record Trying (j a : ℕ) : Type 0 where
    pub walk : Walk {A = ℕ} (first_with faults fs h claim cs j) (λ n c. c) (is_alignment fs h j) (turn fs h j) (first_among faults fs h claim (completions fs h cs)) 0 a
    pub listed : Mem a (or_empty (alignments fs h j))

  -- It starts at the first.
  pub try-first : {j : ℕ} → Prefix j cs → Mem j (range 1 groups) → (first : Option ℕ) → first ≡ least (is_alignment fs h j) (turn fs h j - 0) 0 → Trying j (or_zero first)
  try-first {j} p listed first is =
      record {
        walk = visit-first (first_with faults fs h claim cs j) (λ n c. c) (first_among faults fs h claim (completions fs h cs)) valid h j {done = 0} first is
            (with-turn valid inside cs p.long j listed faults claim ∙ with_all faults fs h claim cs p listed);
        listed = first-listed valid h j first is;
      }

  module _ (long : length cs ≡ groups) {j a : ℕ} (try : Trying j a) where
    -- It ends where a response exceeds the claim,
    pub try-take : claim < fixing_more faults fs h groups (set cs (j - 1) (Fixed a)) → first_among faults fs h claim (completions fs h cs) ≡ first_among faults fs h claim (completions fs h (set cs (j - 1) (Fixed a)))
    try-take over = sym try.walk.is ∙ with-take faults fs h claim cs (valid.frame k inside) long j a _ over

    -- or at the last;
    pub try-last : least (is_alignment fs h j) (turn fs h j - (a + 1)) (a + 1) ≡ None
        → first_among faults fs h claim (completions fs h cs) ≡ first_among faults fs h claim (completions fs h (set cs (j - 1) (Fixed a)))
    try-last none =
        let over : least (is_alignment fs h j) (turn fs h j - suc a) (suc a) ≡ None = rw add-one at none in
        sym try.walk.is ∙ ap (λ (als : List ℕ). first_with faults fs h claim cs j (a ∷ als)) (keep-end (is_alignment fs h j) (turn fs h j) (suc a) over)
        ∙ with-last faults fs h claim cs (valid.frame k inside) long j a

    -- otherwise it goes on to the next.
    pub try-next : fixing_more faults fs h groups (set cs (j - 1) (Fixed a)) ≤ claim → {b : ℕ} → least (is_alignment fs h j) (turn fs h j - (a + 1)) (a + 1) ≡ Some b → Trying j b
    try-next within found =
        record {
          walk = walk_more (first_with faults fs h claim cs j) (λ n c. c) (is_alignment fs h j) (turn fs h j) (first_among faults fs h claim (completions fs h cs)) {next = 0} try.walk
              (λ als. with-skip faults fs h claim cs (valid.frame k inside) long j a als within) found;
          listed = found-listed valid h j (a + 1) found;
        }
