-- A judgement in numbers: they come by document 01's order, and settle the judgement.
use Rattle.std.specs.Prelude.{ℕ, ◌≡◌, refl, List, cond, leb, eqb}
use Rattle.std.proofs.Common.{sym, ap, ◌∙◌}
use Rattle.arith.specs.Laws.Tests.{by-test}
use Rattle.bus_model.specs.Bounds.{approximate_bound, precise_bound}
use Rattle.bus_model.specs.Levels.{level_bound}
use Rattle.bus_model.specs.Judgement.{lacks_window, too_many_scenarios, deepest_level, precise_outcome, crowded_outcome, refined_outcome, windowed_outcome, outcome_of, verdict, bound_used, margin_of, judge}
use Rattle.bus_model.specs.Finding.{Finding, finding_of, finding_for}
use Rattle.bus_model.specs.declared.Frame.{Frame}
use Rattle.bus_model.specs.declared.Faults.{Faults}
use Rattle.bus_model.specs.declared.Outcome.{Outcome}
use Rattle.bus_model.specs.declared.Outcome.TheVariants.{CertifiedApproximate, CertifiedPrecise, ClaimTooSmall, CertifiedLevel, Undecided, NoWindow}
use Rattle.bus_model.specs.declared.Judgement.{Judgement}

pub judge-finds : (faults : Faults) (fs : List Frame) (k : Frame) (claim : ℕ) → finding_of (judge faults fs k claim) ≡ finding_for faults fs k claim
unfolding finding_of finding_for judge outcome_of windowed_outcome refined_outcome crowded_outcome precise_outcome bound_used margin_of
judge-finds faults fs k claim =
    by-test (lacks_window faults fs k) (λ w. simp w)
    (λ w. by-test (leb (approximate_bound faults fs k) claim) (λ a. simp (w, a))
    (λ a. by-test (too_many_scenarios fs k)
    (λ m. by-test (leb (level_bound faults fs k (deepest_level fs k)) claim) (λ d. simp (w, a, m, d)) (λ d. simp (w, a, m, d)))
    (λ m. by-test (leb (precise_bound faults fs k) claim) (λ p. simp (w, a, m, p)) (λ p. simp (w, a, m, p)))))

-- the outcome with a verdict and the bound used
outcome_by : ℕ → ℕ → Outcome
outcome_by v b =
    cond (eqb v 1) (CertifiedApproximate b)
    (cond (eqb v 2) (CertifiedPrecise b) (cond (eqb v 3) (ClaimTooSmall b) (cond (eqb v 4) (CertifiedLevel b) (cond (eqb v 12) (Undecided b) NoWindow))))

outcome-back : (o : Outcome) → outcome_by (verdict o) (bound_used o) ≡ o
unfolding outcome_by bound_used
outcome-back (CertifiedApproximate b) = refl
outcome-back (CertifiedPrecise b) = refl
outcome-back (ClaimTooSmall b) = refl
outcome-back (CertifiedLevel b) = refl
outcome-back (Undecided b) = refl
outcome-back NoWindow = refl

-- the bound beside the outcome is the one that the outcome holds
abbrev pub Whole : Judgement → Type 0
Whole j = j.bound ≡ bound_used j.outcome

pub judge-whole : (faults : Faults) (fs : List Frame) (k : Frame) (claim : ℕ) → Whole (judge faults fs k claim)
unfolding judge
judge-whole faults fs k claim = refl

-- the judgement with a finding
pub judgement_by : Finding → Judgement
judgement_by f = record { outcome = outcome_by f.verdict f.bound; bound = f.bound; margin = f.margin }

pub judgement-back : (j : Judgement) → Whole j → judgement_by (finding_of j) ≡ j
unfolding judgement_by finding_of
judgement-back j whole = ap (λ (o : Outcome). record { outcome = o; bound = j.bound; margin = j.margin }) (ap (outcome_by (verdict j.outcome)) whole ∙ outcome-back j.outcome)

-- Judgements with one finding are the same.
pub finding-settles : (i j : Judgement) → Whole i → Whole j → finding_of i ≡ finding_of j → i ≡ j
finding-settles i j p q e = sym (judgement-back i p) ∙ ap judgement_by e ∙ judgement-back j q
