-- The answers as they are made of the bound that decides: they are those of Judge and of bus_model's Judgement (Laws/Judged).
use Rattle.std.specs.Prelude.{ℕ, cond, leb, pos, ◌-ℤ◌, Result, Ok, Err}
use Rattle.row_judgement.specs.declared.Refusal.{Refusal}
use Rattle.bus_model.specs.declared.Outcome.{Outcome}
use Rattle.bus_model.specs.declared.Outcome.TheVariants.{CertifiedApproximate, CertifiedPrecise, ClaimTooSmall, CertifiedLevel, Undecided, NoWindow}
use Rattle.bus_model.specs.declared.Judgement.{Judgement}
use Rattle.bounds.specs.declared.Bound.{Bound}
use Rattle.bounds.specs.declared.Bound.TheVariants.{NoWindow as LacksWindow, Approximate, Level, TooMany, Precise}
use Rattle.row_judgement.specs.declared.Cause.TheVariants.{NoWindow as CauseNoWindow, TooManyScenarios}

-- an outcome beside the bound used and the margin
abbrev pub beside : ℕ → Outcome → ℕ → Judgement
beside claim outcome b = record { outcome = outcome; bound = b; margin = pos claim -ℤ pos b }

-- the judgement of a claim
unfoldable pub judged_by : ℕ → Bound → Judgement
judged_by claim LacksWindow = record { outcome = NoWindow; bound = 0; margin = pos 0 }
judged_by claim (Approximate b) = beside claim (CertifiedApproximate b) b
judged_by claim (Level b) = beside claim (CertifiedLevel b) b
judged_by claim (TooMany b) = beside claim (Undecided b) b
judged_by claim (Precise b) = cond (leb b claim) (beside claim (CertifiedPrecise b) b) (beside claim (ClaimTooSmall b) b)

-- the precise bound of row i
unfoldable pub bounded_by : ℕ → Bound → Result ℕ Refusal
bounded_by i LacksWindow = Err (record { cause = CauseNoWindow; place = i })
bounded_by i (Approximate b) = Ok b
bounded_by i (Level b) = Ok b
bounded_by i (TooMany b) = Err (record { cause = TooManyScenarios; place = i })
bounded_by i (Precise b) = Ok b
