-- The judgement of the claim of a frame k of the table fs (document 01, "Judgement").
-- "The answer is one of a few named outcomes"; "it stands in a record beside the bound used and the margin".
use Rattle.std.specs.Prelude.{ℕ, ◌≡◌, List, Bool, cond, ◌||◌, ◌↔◌, ◌⊎◌, eqb, leb, ltb, ℤ, pos, ◌-ℤ◌, ◌<ℤ◌, is_none}
use Rattle.arith.specs.Lists.{greatest, keep, exists, range}
use Rattle.bus_model.specs.Bounds.{groups, busy_window, scenarios, own_group, approximate_bound, precise_bound, scenario_count}
use Rattle.bus_model.specs.Levels.{level_bound, level_count}
use Rattle.bus_model.specs.declared.Frame.{Frame}
use Rattle.bus_model.specs.declared.Faults.{Faults}
use Rattle.bus_model.specs.declared.Outcome.{Outcome}
use Rattle.bus_model.specs.declared.Outcome.TheVariants.{CertifiedApproximate, CertifiedPrecise, ClaimTooSmall, CertifiedLevel, Undecided, NoWindow}
use Rattle.bus_model.specs.declared.Judgement.{Judgement}

-- the greatest scenario count that is decided
unfoldable pub scenario_limit : ℕ
scenario_limit = 65536

-- "the scenario count exceeds 65536"
unfoldable pub too_many_scenarios : List Frame → Frame → Bool
too_many_scenarios fs k = ltb scenario_limit (scenario_count fs k)

-- "the deepest level whose product of fixed alignments is at most 65536"; that of the rough bound where none is
unfoldable pub deepest_level : List Frame → Frame → ℕ
deepest_level fs k = greatest (λ m. m) (keep (λ m. leb (level_count fs k m) scenario_limit) (range 0 groups))

-- under a premise about faults
module _ (faults : Faults) where
  -- "no window": for some alignment of k's group no l up to the limit serves the rough bound
  unfoldable pub lacks_window : List Frame → Frame → Bool
  lacks_window fs k = exists (λ cs. is_none (busy_window faults fs k cs)) (scenarios fs k (own_group k))

  -- "otherwise 2 or 3 by the exact bound"
  unfoldable pub precise_outcome : List Frame → Frame → ℕ → Outcome
  precise_outcome fs k claim = let b = precise_bound faults fs k in cond (leb b claim) (CertifiedPrecise b) (ClaimTooSmall b)

  -- where there are too many scenarios: "verdict 4, with that bound, if it is within the claim, and otherwise 12 as before", with the rough
  -- bound b
  unfoldable pub crowded_outcome : List Frame → Frame → ℕ → ℕ → Outcome
  crowded_outcome fs k claim b = let c = level_bound faults fs k (deepest_level fs k) in cond (leb c claim) (CertifiedLevel c) (Undecided b)

  -- where the rough bound b exceeds the claim: "undecided, if the scenario count exceeds 65536 (bound is the rough one)", unless a level
  -- certifies
  unfoldable pub refined_outcome : List Frame → Frame → ℕ → ℕ → Outcome
  refined_outcome fs k claim b = cond (too_many_scenarios fs k) (crowded_outcome fs k claim b) (precise_outcome fs k claim)

  -- where the windows exist: "1, if rough bound ≤ claim"
  unfoldable pub windowed_outcome : List Frame → Frame → ℕ → Outcome
  windowed_outcome fs k claim = let b = approximate_bound faults fs k in cond (leb b claim) (CertifiedApproximate b) (refined_outcome fs k claim b)

  -- the outcome, in document 01's "Order"
  unfoldable pub outcome_of : List Frame → Frame → ℕ → Outcome
  outcome_of fs k claim = cond (lacks_window fs k) NoWindow (windowed_outcome fs k claim)

-- the "verdict" of an outcome
abbrev pub verdict : Outcome → ℕ
verdict (CertifiedApproximate b) = 1
verdict (CertifiedPrecise b) = 2
verdict (ClaimTooSmall b) = 3
verdict (CertifiedLevel b) = 4
verdict (Undecided b) = 12
verdict NoWindow = 11

-- "the bound used", 0 where there is no window
unfoldable pub bound_used : Outcome → ℕ
bound_used (CertifiedApproximate b) = b
bound_used (CertifiedPrecise b) = b
bound_used (ClaimTooSmall b) = b
bound_used (CertifiedLevel b) = b
bound_used (Undecided b) = b
bound_used NoWindow = 0

-- "Margin is claim minus bound, a signed number", 0 where there is no window
unfoldable pub margin_of : ℕ → Outcome → ℤ
margin_of claim (CertifiedApproximate b) = pos claim -ℤ pos b
margin_of claim (CertifiedPrecise b) = pos claim -ℤ pos b
margin_of claim (ClaimTooSmall b) = pos claim -ℤ pos b
margin_of claim (CertifiedLevel b) = pos claim -ℤ pos b
margin_of claim (Undecided b) = pos claim -ℤ pos b
margin_of claim NoWindow = pos 0

-- the judgement
unfoldable pub judge : Faults → List Frame → Frame → ℕ → Judgement
judge faults fs k claim = let o = outcome_of faults fs k claim in record { outcome = o; bound = bound_used o; margin = margin_of claim o }

-- what document 01 says of it: the margin is "below zero exactly for verdicts 3 and 12"
abbrev pub MarginSign : Judgement → Type 0
MarginSign j = (j.margin <ℤ pos 0) ↔ ((verdict j.outcome ≡ 3) ⊎ (verdict j.outcome ≡ 12))

-- "certified": "verdict 1 or 2"; "verdict 4 certifies just as 1 and 2 do"
unfoldable pub certifies : Outcome → Bool
certifies o = eqb (verdict o) 1 || eqb (verdict o) 2 || eqb (verdict o) 4
