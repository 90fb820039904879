-- What judging a row and computing its precise bound return, in numbers (document 01, "Where a call is turned back", "Judgement").
-- Number and place are those of a refusal, 0 and 0 where there is none.
use Rattle.std.specs.Prelude.{ℕ, List, cond, eqb, ℤ, pos, Result, Ok, Err}
use Rattle.bus_model.specs.declared.Judgement.{Judgement}
use Rattle.row_judgement.specs.declared.Refusal.{Refusal}
use Rattle.bus_model.specs.Frame.{row}
use Rattle.bus_model.specs.Bounds.{precise_bound}
use Rattle.bus_model.specs.Judgement.{lacks_window, too_many_scenarios}
use Rattle.bus_model.specs.Finding.{Finding, finding_of, finding_for}
use Rattle.bus_model.specs.declared.Faults.TheVariants.{Never, Apart}
use Rattle.table_checks.specs.Frames.{frames_of}
use Rattle.table_checks.specs.Refusal.{Returned, returned}
use Rattle.row_judgement.specs.Refusal.{number_of}
use Rattle.row_judgement.specs.Judge.{claim_of, no_row, is_gap}

-- ---- judging a row

-- besides: verdict, bound and margin, 0 where there is no judgement
pub record JudgedReturned : Type 0 where
  pub number : ℕ
  pub place : ℕ
  pub verdict : ℕ
  pub bound : ℕ
  pub margin : ℤ

abbrev pub as_verdict : Finding → JudgedReturned
as_verdict f = record { number = 0; place = 0; verdict = f.verdict; bound = f.bound; margin = f.margin }

abbrev pub as_not_judged : Returned → JudgedReturned
as_not_judged r = record { number = r.number; place = r.place; verdict = 0; bound = 0; margin = pos 0 }

-- what an answer returns
unfoldable pub judged_returns : Result Judgement Refusal → JudgedReturned
judged_returns (Ok j) = as_verdict (finding_of j)
judged_returns (Err f) = as_not_judged (returned (number_of f.cause) f.place)

-- what is returned for row r, by the lengths ls: what the check of lengths and table returns, then 9, then what judging finds
unfoldable pub judge_returns : Returned → List (List ℕ) → List ℕ → ℕ → JudgedReturned
judge_returns check ls rows r =
    cond (eqb check.number 0)
    (cond (no_row rows r) (as_not_judged (returned 9 0)) (as_verdict (finding_for Never (frames_of ls rows) (row (frames_of ls rows) r) (claim_of rows r))))
    (as_not_judged check)

-- the same under the premise that faults begin at least g ticks apart: after 9, 17
unfoldable pub judge_faults_returns : Returned → List (List ℕ) → List ℕ → ℕ → ℕ → JudgedReturned
judge_faults_returns check ls rows r g =
    cond (eqb check.number 0)
    (cond (no_row rows r) (as_not_judged (returned 9 0))
    (cond (is_gap g) (as_verdict (finding_for (Apart g) (frames_of ls rows) (row (frames_of ls rows) r) (claim_of rows r))) (as_not_judged (returned 17 0))))
    (as_not_judged check)

-- ---- the precise bound alone

-- besides: the bound, 0 where there is none
pub record BoundedReturned : Type 0 where
  pub number : ℕ
  pub place : ℕ
  pub bound : ℕ

abbrev pub as_bound : ℕ → BoundedReturned
as_bound b = record { number = 0; place = 0; bound = b }

abbrev pub as_not_bounded : Returned → BoundedReturned
as_not_bounded r = record { number = r.number; place = r.place; bound = 0 }

-- what an answer returns
unfoldable pub bounded_returns : Result ℕ Refusal → BoundedReturned
bounded_returns (Ok b) = as_bound b
bounded_returns (Err f) = as_not_bounded (returned (number_of f.cause) f.place)

-- what is returned for row r, by the lengths ls: what the check of lengths and table returns, then 9, 11, 12, then the bound
unfoldable pub bound_returns : Returned → List (List ℕ) → List ℕ → ℕ → BoundedReturned
bound_returns check ls rows r =
    let fs = frames_of ls rows in
    let k = row fs r in
    cond (eqb check.number 0)
    (cond (no_row rows r) (as_not_bounded (returned 9 0))
    (cond (lacks_window Never fs k) (as_not_bounded (returned 11 r))
    (cond (too_many_scenarios fs k) (as_not_bounded (returned 12 r)) (as_bound (precise_bound Never fs k)))))
    (as_not_bounded check)
