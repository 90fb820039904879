-- What a judgement tells: a certified frame meets its claim, whatever the schedule;
-- the margin is negative exactly for verdicts 3 and 12, and no bound exceeds the longest window.
use Rattle.std.specs.Prelude.{ℕ, zero, suc, ◌≤◌, ◌<◌, ◌≡◌, List, Bool, ◌≢◌, ◌↔◌, ◌⊎◌, leb, pos, ◌-ℤ◌, ◌<ℤ◌, length}
use Rattle.std.proofs.Math.Path.{refl}
use Rattle.std.proofs.Common.{ap, inl, inr, arith, lt-ltb, le-ltb, leb→le, le→leb}
use Rattle.std.proofs.Math.Bool.{true, false, cond}
use Rattle.std.proofs.Math.Dec.{T, eqb_refl}
use Rattle.std.specs.Int.Signed.{lt_z_yes, le_z_yes, clash_ℤ}
use Rattle.arith.specs.Laws.Members.{exists-mem}
use Rattle.arith.specs.Laws.Tests.{cond_yes, cond_cases}
use Rattle.arith.specs.Laws.Least.{not_none}
use Rattle.bus_model.specs.Frame.{row}
use Rattle.bus_model.specs.Valid.{Valid, ValidFaults}
use Rattle.bus_model.specs.Bus.{MeetsClaim}
use Rattle.bus_model.specs.Bounds.{window_limit, own_group, every_group, busy_window, approximate_bound, precise_bound}
use Rattle.bus_model.specs.Levels.{level_bound}
use Rattle.bus_model.specs.Judgement.{lacks_window, too_many_scenarios, deepest_level, precise_outcome, crowded_outcome, refined_outcome, windowed_outcome, outcome_of, verdict, bound_used, margin_of, judge, MarginSign, certifies}
use Rattle.bus_model.proofs.Theory.Scenarios.{Windowed, bound-le-limit, windows-refine, bound-refine}
use Rattle.bus_model.proofs.Theory.Soundness.{sound-approximate, sound-precise}
use Rattle.bus_model.proofs.Theory.Levels.{sound-level, level-le-limit}
use Rattle.bus_model.specs.declared.Frame.{Frame}
use Rattle.bus_model.specs.declared.Faults.{Faults}
use Rattle.bus_model.specs.declared.Faults.TheVariants.{Never}
use Rattle.bus_model.specs.declared.Outcome.{Outcome}
use Rattle.bus_model.specs.declared.Outcome.TheVariants.{CertifiedApproximate, CertifiedPrecise, ClaimTooSmall, CertifiedLevel, Undecided, NoWindow}

-- The approximate scenarios have windows where none lacks one.
pub has-windows : (faults : Faults) (fs : List Frame) (k : Frame) → ¬ T (lacks_window faults fs k) → Windowed faults fs k (own_group k)
unfolding lacks_window
has-windows faults fs k has cs m = not_none (busy_window faults fs k cs) (λ t. has (exists-mem _ m t))

-- A frame whose verdict is not 11 lacks none.
pub not-lacking : (faults : Faults) (fs : List Frame) (k : Frame) (claim : ℕ) → verdict (judge faults fs k claim).outcome ≢ 11 → ¬ T (lacks_window faults fs k)
unfolding judge outcome_of
not-lacking faults fs k claim other t = other (ap verdict (cond_yes (lacks_window faults fs k) NoWindow (windowed_outcome faults fs k claim) t))

-- What holds of an outcome in each of document 01's cases holds of the outcome.
pub by-outcome : (P : Outcome → Type 0) (faults : Faults) (fs : List Frame) (k : Frame) (claim : ℕ)
    → (T (lacks_window faults fs k) → P NoWindow)
    → (Windowed faults fs k (own_group k) → approximate_bound faults fs k ≤ claim → P (CertifiedApproximate (approximate_bound faults fs k)))
    → (Windowed faults fs k (own_group k) → claim < approximate_bound faults fs k → T (too_many_scenarios fs k) → level_bound faults fs k (deepest_level fs k) ≤ claim → P (CertifiedLevel (level_bound faults fs k (deepest_level fs k))))
    → (Windowed faults fs k (own_group k) → claim < approximate_bound faults fs k → T (too_many_scenarios fs k) → claim < level_bound faults fs k (deepest_level fs k) → P (Undecided (approximate_bound faults fs k)))
    → (Windowed faults fs k (own_group k) → claim < approximate_bound faults fs k → ¬ T (too_many_scenarios fs k) → precise_bound faults fs k ≤ claim → P (CertifiedPrecise (precise_bound faults fs k)))
    → (Windowed faults fs k (own_group k) → claim < approximate_bound faults fs k → ¬ T (too_many_scenarios fs k) → claim < precise_bound faults fs k → P (ClaimTooSmall (precise_bound faults fs k)))
    → P (outcome_of faults fs k claim)
unfolding outcome_of windowed_outcome refined_outcome crowded_outcome precise_outcome
by-outcome P faults fs k claim lacking approximate level undecided precise small =
    cond_cases P (lacks_window faults fs k) lacking (λ has.
    let windows = has-windows faults fs k has in
    cond_cases P (leb (approximate_bound faults fs k) claim) (λ t. approximate windows (leb→le _ _ t)) (λ more.
    let exceeds : claim < approximate_bound faults fs k = not-leb more in
    cond_cases P (too_many_scenarios fs k) (λ many.
    cond_cases P (leb (level_bound faults fs k (deepest_level fs k)) claim) (λ t. level windows exceeds many (leb→le _ _ t)) (λ more'. undecided windows exceeds many (not-leb more'))) (λ few.
    cond_cases P (leb (precise_bound faults fs k) claim) (λ t. precise windows exceeds few (leb→le _ _ t)) (λ more'. small windows exceeds few (not-leb more')))))
  where
    not-leb : {b : ℕ} → ¬ T (leb b claim) → claim < b
    not-leb {b} h = let less : ¬ (b ≤ claim) = λ le. h (le→leb b claim le) in omega arith

-- ---- the levels between the bounds

-- the outcome without them, as document 01 alone gives it
unfoldable pub plain_outcome : Faults → List Frame → Frame → ℕ → Outcome
plain_outcome faults fs k claim =
    let b = approximate_bound faults fs k in
    cond (lacks_window faults fs k) NoWindow (cond (leb b claim) (CertifiedApproximate b) (cond (too_many_scenarios fs k) (Undecided b) (precise_outcome faults fs k claim)))

module _ (faults : Faults) (fs : List Frame) (k : Frame) (claim : ℕ) where
  -- "Other verdicts are untouched".
  pub untouched : verdict (plain_outcome faults fs k claim) ≢ 12 → outcome_of faults fs k claim ≡ plain_outcome faults fs k claim
  unfolding plain_outcome outcome_of windowed_outcome refined_outcome
  untouched other = go (lacks_window faults fs k) (leb (approximate_bound faults fs k) claim) (too_many_scenarios fs k) other
    where
      go : (lacks fits many : Bool) → verdict (cond lacks NoWindow (cond fits (CertifiedApproximate (approximate_bound faults fs k)) (cond many (Undecided (approximate_bound faults fs k)) (precise_outcome faults fs k claim)))) ≢ 12
          → cond lacks NoWindow (cond fits (CertifiedApproximate (approximate_bound faults fs k)) (cond many (crowded_outcome faults fs k claim (approximate_bound faults fs k)) (precise_outcome faults fs k claim)))
          ≡ cond lacks NoWindow (cond fits (CertifiedApproximate (approximate_bound faults fs k)) (cond many (Undecided (approximate_bound faults fs k)) (precise_outcome faults fs k claim)))
      go true fits many h = refl
      go false true many h = refl
      go false false true h = absurd (h refl)
      go false false false h = refl

  -- "Where 12 was given", the deepest level decides.
  pub levels-decide : verdict (plain_outcome faults fs k claim) ≡ 12 → outcome_of faults fs k claim ≡ crowded_outcome faults fs k claim (approximate_bound faults fs k)
  unfolding plain_outcome outcome_of windowed_outcome refined_outcome precise_outcome
  levels-decide undecided = go (lacks_window faults fs k) (leb (approximate_bound faults fs k) claim) (too_many_scenarios fs k) (leb (precise_bound faults fs k) claim) undecided
    where
      go : (lacks fits many small : Bool)
          → verdict (cond lacks NoWindow (cond fits (CertifiedApproximate (approximate_bound faults fs k)) (cond many (Undecided (approximate_bound faults fs k)) (cond small (CertifiedPrecise (precise_bound faults fs k)) (ClaimTooSmall (precise_bound faults fs k)))))) ≡ 12
          → cond lacks NoWindow (cond fits (CertifiedApproximate (approximate_bound faults fs k)) (cond many (crowded_outcome faults fs k claim (approximate_bound faults fs k)) (cond small (CertifiedPrecise (precise_bound faults fs k)) (ClaimTooSmall (precise_bound faults fs k)))))
          ≡ crowded_outcome faults fs k claim (approximate_bound faults fs k)
      go true fits many small e = absurd (omega arith)
      go false true many small e = absurd (omega arith)
      go false false true small e = refl
      go false false false true e = absurd (omega arith)
      go false false false false e = absurd (omega arith)

-- ---- the margin

not-below : (n : ℕ) → ¬ (pos n <ℤ pos 0)
not-below n less = clash_ℤ less (le_z_yes (le→leb 0 n (omega arith)))

-- A claim below the bound has a negative margin.
margin-negative : {claim b : ℕ} → claim < b → (pos claim -ℤ pos b) <ℤ pos 0
margin-negative {b = zero} less = absurd (omega arith)
margin-negative {claim} {b = suc b} less = lt_z_yes (rw (lt-ltb claim (suc b) less) tt)

-- No other claim has.
margin-positive : {claim b : ℕ} → b ≤ claim → ¬ ((pos claim -ℤ pos b) <ℤ pos 0)
margin-positive {b = zero} le = not-below _
margin-positive {claim} {b = suc b} le = rw (le-ltb claim (suc b) le) (not-below _)

-- The margin is negative exactly for verdicts 3 and 12.
pub margin-sign : (faults : Faults) (fs : List Frame) (k : Frame) (claim : ℕ) → MarginSign (judge faults fs k claim)
unfolding judge margin_of
margin-sign faults fs k claim =
    by-outcome (λ o. (margin_of claim o <ℤ pos 0) ↔ ((verdict o ≡ 3) ⊎ (verdict o ≡ 12))) faults fs k claim
    (λ lacks. (λ t. absurd (not-below 0 t), elim [ inl e ↦ omega arith | inr e ↦ omega arith ]))
    (λ windows le. (λ t. absurd (margin-positive le t), elim [ inl e ↦ absurd (omega arith) | inr e ↦ absurd (omega arith) ]))
    (λ windows exceeds many le. (λ t. absurd (margin-positive le t), elim [ inl e ↦ absurd (omega arith) | inr e ↦ absurd (omega arith) ]))
    (λ windows less many over. (λ t. inr refl, λ e. margin-negative less))
    (λ windows exceeds few le. (λ t. absurd (margin-positive le t), elim [ inl e ↦ absurd (omega arith) | inr e ↦ absurd (omega arith) ]))
    (λ windows exceeds few less. (λ t. inl refl, λ e. margin-negative less))

-- ---- demand 3

-- "Certified" is verdict 1, 2 or 4.
pub certified-verdict : (o : Outcome) → T (certifies o) ↔ ((verdict o ≡ 1) ⊎ (verdict o ≡ 2) ⊎ (verdict o ≡ 4))
unfolding certifies
certified-verdict (CertifiedApproximate b) = (λ t. inl refl, λ e. tt)
certified-verdict (CertifiedPrecise b) = (λ t. inr (inl refl), λ e. tt)
certified-verdict (ClaimTooSmall b) = (λ t. absurd t, elim [ inl e ↦ omega arith | inr (inl e) ↦ omega arith | inr (inr e) ↦ omega arith ])
certified-verdict (CertifiedLevel b) = (λ t. inr (inr refl), λ e. tt)
certified-verdict (Undecided b) = (λ t. absurd t, elim [ inl e ↦ omega arith | inr (inl e) ↦ omega arith | inr (inr e) ↦ omega arith ])
certified-verdict NoWindow = (λ t. absurd t, elim [ inl e ↦ omega arith | inr (inl e) ↦ omega arith | inr (inr e) ↦ omega arith ])

module _ {fs : List Frame} (valid : Valid fs) {k : ℕ} (inside : k < length fs) where
  abbrev f : Frame
  f = row fs k

  -- A frame that is certified under a premise about faults meets its claim in every schedule under that premise.
  pub certified-meets-under : (faults : Faults) → ValidFaults faults → (claim : ℕ) → T (certifies (judge faults fs f claim).outcome) → MeetsClaim faults fs k claim
  unfolding judge certifies
  certified-meets-under faults fine claim =
      by-outcome (λ o. T (certifies o) → MeetsClaim faults fs k claim) faults fs f claim
      (λ lacks t. absurd t)
      (λ windows le t. sound-approximate valid inside faults fine windows claim le)
      (λ windows exceeds many le t. sound-level valid inside faults fine windows (deepest_level fs f) claim le)
      (λ windows less many over t. absurd t)
      (λ windows exceeds few le t. sound-precise valid inside faults fine windows claim le)
      (λ windows exceeds few less t. absurd t)

  -- A frame that is certified meets its claim.
  pub certified-meets : (claim : ℕ) → T (certifies (judge Never fs f claim).outcome) → MeetsClaim Never fs k claim
  unfolding ValidFaults
  certified-meets = certified-meets-under Never tt

  -- ---- the bounds

  own : T (own_group f f.group)
  own = eqb_refl f.group

  -- Where the approximate scenarios have windows, the precise ones have.
  pub precise-windows : (faults : Faults) → Windowed faults fs f (own_group f) → Windowed faults fs f every_group
  precise-windows faults windows = windows-refine valid inside faults (own_group f) every_group (λ j t. tt) windows

  -- The precise bound is at most the approximate one.
  pub precise-le-approximate : (faults : Faults) → Windowed faults fs f (own_group f) → precise_bound faults fs f ≤ approximate_bound faults fs f
  precise-le-approximate faults windows = bound-refine valid inside faults (own_group f) every_group (λ j t. tt) windows own

  -- The bound used is at most the longest window.
  pub judged-le-limit : (faults : Faults) (claim : ℕ) → (judge faults fs f claim).bound ≤ window_limit
  unfolding judge bound_used
  judged-le-limit faults claim =
      let approximate = bound-le-limit valid inside faults (own_group f) own in
      let precise = bound-le-limit valid inside faults every_group tt in
      by-outcome (λ o. bound_used o ≤ window_limit) faults fs f claim
      (λ lacks. omega arith)
      (λ windows le. approximate)
      (λ windows exceeds many le. level-le-limit valid inside faults (deepest_level fs f))
      (λ windows less many over. approximate)
      (λ windows exceeds few le. precise)
      (λ windows exceeds few less. precise)
