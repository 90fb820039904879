-- The case that breaks a claim exists just where the precise bound exceeds the claim, hence for verdict 3 and no other that is decided.
use Prim.Native.Nat.{ℕ, suc, ◌-◌, ◌≤◌, ◌<◌}
use Rattle.std.specs.Prelude.{◌≡◌, Bool, ◌≢◌, ◌↔◌, ltb, length, Option, Some, None}
use Rattle.std.proofs.Math.Path.{refl, sym, ap, ◌∙◌}
use mathlib.Core.List.Memᴰ
use mathlib.Core.List.Memᴰ.{head as here}
use mathlib.Core.List.Memᴰ.{tail as there}
use mathlib.Core.List.{List, [], ◌∷◌, ◌++◌, map, Memᴰ as Mem}
use Rattle.std.proofs.Math.Logic.{inl, inr}
use native.Mathlib.Omega.{arith}
use Rattle.std.proofs.Math.Nat.{le_trans}
use Rattle.std.proofs.Math.Decide.{dec_le}
use Rattle.std.proofs.Math.Dec.{ltb→lt}
use Rattle.std.proofs.Common.{lt→ltb}
use Rattle.std.proofs.lemmas.Option.{none-some, same_Some}
use Rattle.arith.specs.Lists.{range}
use Rattle.arith.specs.Least.{least}
use Rattle.arith.specs.Releases.{releases_before}
use Rattle.arith.specs.Laws.Least.{least_at, least-finds, least-none, none-at}
use Rattle.arith.specs.Laws.Members.{of_range, mem-range}
use Rattle.arith.specs.Laws.Sums.{le-greatest, greatest-exceeds}
use Rattle.bus_model.specs.Frame.{row}
use Rattle.bus_model.specs.Valid.{Valid}
use Rattle.bus_model.specs.Bounds.{scenarios, every_group, busy_window, own_distance, instance_response, response_time, scenario_response, bound_of, precise_bound}
use Rattle.bus_model.specs.Judgement.{deepest_level, verdict, judge}
use Rattle.bus_model.specs.Case.{or_else, shown, exceeding_instance, case_in, first_among, first_case, case_of}
use Rattle.bus_model.proofs.Theory.Response.{response-at, response-none}
use Rattle.bus_model.proofs.Theory.Levels.{last_level, deepest-le, level-last, level-refine}
use Rattle.bus_model.proofs.Theory.Judged.{by-outcome, precise-le-approximate}
use Rattle.bus_model.specs.declared.Frame.{Frame}
use Rattle.bus_model.specs.declared.Faults.{Faults}
use Rattle.bus_model.specs.declared.Choice.{Choice}
use Rattle.bus_model.specs.declared.Outcome.{Outcome}
use Rattle.bus_model.specs.declared.Outcome.TheVariants.{CertifiedApproximate, CertifiedPrecise, ClaimTooSmall, CertifiedLevel, Undecided, NoWindow}
use Rattle.bus_model.specs.declared.Case.{Case}

-- there is a case
abbrev pub Exists : Option Case → Type 0
Exists o = (c : Case) × (o ≡ Some c)

-- ---- the first of two

pub else-first : (o p : Option Case) → Exists o → or_else o p ≡ o
unfolding or_else
else-first (Some c) p some = refl
else-first None p (c, e) = absurd (none-some c e)

pub else-second : (o p : Option Case) → o ≡ None → or_else o p ≡ p
unfolding or_else
else-second o p e = rw e

pub else-none : (o : Option Case) → or_else o None ≡ o
unfolding or_else
else-none (Some c) = refl
else-none None = refl

else-assoc : (o p q : Option Case) → or_else o (or_else p q) ≡ or_else (or_else o p) q
unfolding or_else
else-assoc (Some c) p q = refl
else-assoc None p q = refl

module _ (faults : Faults) (fs : List Frame) (k : Frame) (claim : ℕ) where
  -- ---- in one scenario

  -- whether an instance's response exceeds the claim, by its number from 1
  abbrev pub exceeds : List Choice → ℕ → Bool
  exceeds cs q = ltb claim (instance_response faults fs k cs (q - 1))

  module _ (cs : List Choice) where
    -- how many instances are released in a window
    abbrev pub count : ℕ → ℕ
    count l = releases_before (own_distance k cs) k.period l

    -- It is found among the instances released in the window.
    pub exceeding-at : (l : ℕ) → busy_window faults fs k cs ≡ Some l → exceeding_instance faults fs k claim cs ≡ least (exceeds cs) (count l) 1
    unfolding exceeding_instance
    exceeding-at l e = rw (e, exceeding_instance)

    exceeding-no-window : busy_window faults fs k cs ≡ None → exceeding_instance faults fs k claim cs ≡ None
    unfolding exceeding_instance
    exceeding-no-window e = rw (e, exceeding_instance)

    -- An instance whose response exceeds the claim, while none before it does, is the one.
    pub exceeding-is : (l : ℕ) → busy_window faults fs k cs ≡ Some l → (q : ℕ) → q < releases_before (own_distance k cs) k.period l
        → claim < instance_response faults fs k cs q → ((i : ℕ) → i < q → instance_response faults fs k cs i ≤ claim) → exceeding_instance faults fs k claim cs ≡ Some (suc q)
    exceeding-is l window q inside more before =
        let same : suc q - 1 ≡ q = omega arith in
        let (n, found, le) = least-finds (exceeds cs) (count l) 1 (suc q) (omega arith) (omega arith) (lt→ltb claim (instance_response faults fs k cs (suc q - 1)) (rw same more)) in
        let (low, high, t) = least_at (exceeds cs) (count l) 1 n found in
        let over = ltb→lt claim _ t in
        let not-before : ¬ (n - 1 < q) = λ less. omega (arith, before (n - 1) less) in
        let is : n ≡ suc q = omega arith in
        exceeding-at l window ∙ (rw is at found)

    -- There is none where the scenario's response does not exceed the claim,
    pub exceeding-none : scenario_response faults fs k cs ≤ claim → exceeding_instance faults fs k claim cs ≡ None
    unfolding response_time
    exceeding-none within = go (busy_window faults fs k cs) refl
      where
        go : (r : Option ℕ) → busy_window faults fs k cs ≡ r → exceeding_instance faults fs k claim cs ≡ None
        go (Some l) e =
            exceeding-at l e ∙ least-none (exceeds cs) (count l) 1 (λ q low high t.
            omega (arith, ltb→lt claim _ t, response-at faults fs k cs l e, le-greatest (instance_response faults fs k cs) (mem-range 0 (count l) (q - 1) (omega arith) (omega arith))))
        go None e = exceeding-no-window e

    -- and there is one where it does.
    pub exceeding-some : claim < scenario_response faults fs k cs → (q : ℕ) × (exceeding_instance faults fs k claim cs ≡ Some q)
    unfolding response_time
    exceeding-some over = go (busy_window faults fs k cs) refl
      where
        go : (r : Option ℕ) → busy_window faults fs k cs ≡ r → (q : ℕ) × (exceeding_instance faults fs k claim cs ≡ Some q)
        go (Some l) e =
            let (i, m, more) = greatest-exceeds (instance_response faults fs k cs) claim (range 0 (count l)) (rw (response-at faults fs k cs l e) at over) in
            let (low, high) = of_range 0 (count l) m in
            let same : suc i - 1 ≡ i = omega arith in
            let (q, found, le) = least-finds (exceeds cs) (count l) 1 (suc i) (omega arith) (omega arith) (lt→ltb claim (instance_response faults fs k cs (suc i - 1)) (rw same more)) in
            (q, ◌∙◌ {c = Some q} (exceeding-at l e) found)
        go None e = absurd (omega (arith, response-none faults fs k cs e))

    not-exceeding : exceeding_instance faults fs k claim cs ≡ None → scenario_response faults fs k cs ≤ claim
    not-exceeding none =
        elim (dec_le (scenario_response faults fs k cs) claim) [
          | yes within ↦ within
          | no more ↦ absurd (none-at (sym none ∙ (exceeding-some (omega arith)).1))
        ]

    -- So is the case.
    pub in-at : (q : ℕ) → exceeding_instance faults fs k claim cs ≡ Some q → case_in faults fs k claim cs ≡ Some (record { instance = q; alignments = map shown cs })
    unfolding case_in
    in-at q e = rw e

    pub in-none : exceeding_instance faults fs k claim cs ≡ None → case_in faults fs k claim cs ≡ None
    unfolding case_in
    in-none e = rw e

  -- ---- among scenarios

  -- The first of two lists' is that of the one, or else of the other.
  pub among-append : (xs ys : List (List Choice)) → first_among faults fs k claim (xs ++ ys) ≡ or_else (first_among faults fs k claim xs) (first_among faults fs k claim ys)
  unfolding first_among
  among-append [] ys = sym (else-second None (first_among faults fs k claim ys) refl)
  among-append (cs ∷ xs) ys = ap (or_else (case_in faults fs k claim cs)) (among-append xs ys) ∙ else-assoc (case_in faults fs k claim cs) (first_among faults fs k claim xs) (first_among faults fs k claim ys)

  -- There is none where no response exceeds the claim,
  pub among_none : (xs : List (List Choice)) → ((cs : List Choice) → Mem cs xs → scenario_response faults fs k cs ≤ claim) → first_among faults fs k claim xs ≡ None
  unfolding first_among
  among_none [] within = refl
  among_none (cs ∷ xs) within =
      else-second (case_in faults fs k claim cs) (first_among faults fs k claim xs) (in-none cs (exceeding-none cs (within cs (here refl))))
      ∙ among_none xs (λ cs' m. within cs' (there m))

  -- and one where one does.
  pub among-some : {cs : List Choice} {xs : List (List Choice)} → Mem cs xs → claim < scenario_response faults fs k cs → Exists (first_among faults fs k claim xs)
  unfolding first_among
  among-some {cs = cs} {xs = []} m over = elim m [ ]
  among-some {xs = ds ∷ xs} m over =
      elim (dec_le (scenario_response faults fs k ds) claim) [
        | yes within ↦
            let none = in-none ds (exceeding-none ds within) in
            let rest : Exists (first_among faults fs k claim xs) = elim (Memᴰ.cases_cons m) [ inl e ↦ absurd (omega (arith, ap (scenario_response faults fs k) e)) | inr n ↦ among-some n over ] in
            rw (else-second (case_in faults fs k claim ds) (first_among faults fs k claim xs) none) rest
        | no more ↦
            let (q, e) = exceeding-some ds (omega arith) in
            let some : Exists (case_in faults fs k claim ds) = (_, in-at ds q e) in
            rw (else-first (case_in faults fs k claim ds) (first_among faults fs k claim xs) some) some
      ]

  -- What is shown stands in a scenario, and none before it exceeds the claim.
  pub record Shown (xs : List (List Choice)) (c : Case) : Type 0 where
    pub before : List (List Choice)
    pub scenario : List Choice
    pub after : List (List Choice)
    pub listed : xs ≡ before ++ scenario ∷ after
    pub within : (cs : List Choice) → Mem cs before → scenario_response faults fs k cs ≤ claim
    pub least : exceeding_instance faults fs k claim scenario ≡ Some c.instance
    pub alignments : c.alignments ≡ map shown scenario

  pub among-shown : (xs : List (List Choice)) (c : Case) → first_among faults fs k claim xs ≡ Some c → Shown xs c
  unfolding first_among
  among-shown [] c e = absurd (none-some c e)
  among-shown (cs ∷ xs) c e = go (exceeding_instance faults fs k claim cs) refl (among-shown xs c)
    where
      go : (r : Option ℕ) → exceeding_instance faults fs k claim cs ≡ r → (first_among faults fs k claim xs ≡ Some c → Shown xs c) → Shown (cs ∷ xs) c
      go (Some p) is later =
          let now = in-at cs p is in
          let same = same_Some _ _ (sym now ∙ sym (else-first (case_in faults fs k claim cs) (first_among faults fs k claim xs) (_, now)) ∙ e) in
          record {
            before = [];
            scenario = cs;
            after = xs;
            listed = refl;
            within = λ ds m. absurd (Memᴰ.not-nil m);
            least = is ∙ ap (λ (x : Case). Some x.instance) same;
            alignments = sym (ap (λ (x : Case). x.alignments) same);
          }
      go None is later =
          let s = later (sym (else-second (case_in faults fs k claim cs) (first_among faults fs k claim xs) (in-none cs is)) ∙ e) in
          record {
            before = cs ∷ s.before;
            scenario = s.scenario;
            after = s.after;
            listed = ap (λ (ys : List (List Choice)). cs ∷ ys) s.listed;
            within = λ ds m. elim (Memᴰ.cases_cons m) [ inl same ↦ rw same (not-exceeding cs is) | inr n ↦ s.within ds n ];
            least = s.least;
            alignments = s.alignments;
          }

  -- ---- the first case

  -- It exists just where the precise bound exceeds the claim.
  pub case-exists : Exists (first_case faults fs k claim) ↔ (claim < precise_bound faults fs k)
  unfolding first_case bound_of
  case-exists = (
    λ some. elim (dec_le (precise_bound faults fs k) claim) [
      | yes within ↦
          let none = among_none (scenarios fs k every_group) (λ cs m. le_trans (le-greatest (scenario_response faults fs k) m) within) in
          absurd (none-some _ (sym none ∙ some.1))
      | no over ↦ omega arith
    ],
    λ over. let (cs, m, more) = greatest-exceeds (scenario_response faults fs k) claim (scenarios fs k every_group) over in among-some m more,
  )

-- ---- and the judgement

module _ {fs : List Frame} (valid : Valid fs) {k : ℕ} (inside : k < length fs) where
  abbrev f : Frame
  f = row fs k

  -- "Where neither 11 nor 12 is the verdict, it is 3 if and only if such a case exists".
  pub small-just-with-case : (faults : Faults) (claim : ℕ) → let v = verdict (judge faults fs f claim).outcome in v ≢ 11 → v ≢ 12 → (v ≡ 3) ↔ Exists (first_case faults fs f claim)
  unfolding judge
  small-just-with-case faults claim =
      by-outcome (λ o. verdict o ≢ 11 → verdict o ≢ 12 → (verdict o ≡ 3) ↔ Exists (first_case faults fs f claim)) faults fs f claim
      (λ lacks n11 n12. absurd (n11 refl))
      (λ windows le n11 n12. none (omega (arith, precise-le-approximate valid inside faults windows)) (λ e. omega arith))
      (λ windows exceeds many le n11 n12. none (omega (arith, level-refine valid inside faults windows {m = deepest_level fs f} {n = last_level} (deepest-le fs f), level-last fs (valid.frame k inside) faults)) (λ e. omega arith))
      (λ windows less many over n11 n12. absurd (n12 refl))
      (λ windows exceeds few le n11 n12. none le (λ e. omega arith))
      (λ windows exceeds few less n11 n12. (λ e. (case-exists faults fs f claim).1 less, λ some. refl))
    where
      none : {v : ℕ} → precise_bound faults fs f ≤ claim → ¬ (v ≡ 3) → (v ≡ 3) ↔ Exists (first_case faults fs f claim)
      none le other = (λ e. absurd (other e), λ some. absurd (omega (arith, (case-exists faults fs f claim).0 some)))

-- "For every other verdict the judgement comes without a case".
pub case-of-small : (faults : Faults) (fs : List Frame) (k : Frame) (claim : ℕ) (o : Outcome) → verdict o ≡ 3 → case_of faults fs k claim o ≡ first_case faults fs k claim
unfolding case_of
case-of-small faults fs k claim (CertifiedApproximate b) e = absurd (omega arith)
case-of-small faults fs k claim (CertifiedPrecise b) e = absurd (omega arith)
case-of-small faults fs k claim (ClaimTooSmall b) e = refl
case-of-small faults fs k claim (CertifiedLevel b) e = absurd (omega arith)
case-of-small faults fs k claim (Undecided b) e = absurd (omega arith)
case-of-small faults fs k claim NoWindow e = absurd (omega arith)

pub case-of-other : (faults : Faults) (fs : List Frame) (k : Frame) (claim : ℕ) (o : Outcome) → verdict o ≢ 3 → case_of faults fs k claim o ≡ None
unfolding case_of
case-of-other faults fs k claim (CertifiedApproximate b) other = refl
case-of-other faults fs k claim (CertifiedPrecise b) other = refl
case-of-other faults fs k claim (ClaimTooSmall b) other = absurd (other refl)
case-of-other faults fs k claim (CertifiedLevel b) other = refl
case-of-other faults fs k claim (Undecided b) other = refl
case-of-other faults fs k claim NoWindow other = refl
