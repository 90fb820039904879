-- The judgement of a row with the case that breaks its claim (document 02, request 4).
use Rattle.std.specs.Prelude.{ℕ, List, Option, None, Result, Ok, Err}
use Rattle.bus_model.specs.declared.Judgement.{Judgement}
use Rattle.row_judgement.specs.declared.Refusal.{Refusal}
use Rattle.bus_model.specs.declared.Case.{Case}
use Rattle.bus_model.specs.Frame.{row}
use Rattle.bus_model.specs.Case.{alignments_of, instance_of, case_of}
use Rattle.bus_model.specs.declared.Faults.{Faults}
use Rattle.bus_model.specs.declared.Faults.TheVariants.{Never, Apart}
use Rattle.table_checks.specs.Frames.{frames_of}
use Rattle.table_checks.specs.Refusal.{Returned}
use Rattle.row_judgement.specs.declared.Explained.{Explained}
use Rattle.row_judgement.specs.Judge.{claim_of, judge_row, judge_faults}
use Rattle.row_judgement.specs.Returns.{JudgedReturned, judged_returns, judge_returns, judge_faults_returns}

-- the case beside an answer for row r: that of its outcome, none where it is not judged
unfoldable pub case_beside : Faults → List (List ℕ) → List ℕ → ℕ → Result Judgement Refusal → Option Case
case_beside faults ls rows r (Ok j) = case_of faults (frames_of ls rows) (row (frames_of ls rows) r) (claim_of rows r) j.outcome
case_beside faults ls rows r (Err f) = None

abbrev pub beside : Faults → List (List ℕ) → List ℕ → ℕ → Result Judgement Refusal → Explained
beside faults ls rows r answer = record { judged = answer; breaking = case_beside faults ls rows r answer }

-- what judging the row answers, with its case
unfoldable pub explain_row : List (List ℕ) → List ℕ → ℕ → Explained
explain_row ls rows r = beside Never ls rows r (judge_row ls rows r)

-- the same under the premise that faults begin at least g ticks apart
unfoldable pub explain_faults : List (List ℕ) → List ℕ → ℕ → ℕ → Explained
explain_faults ls rows r g = beside (Apart g) ls rows r (judge_faults ls rows r g)

-- ---- in numbers

-- what judging returns, and besides the alignments of groups 1 to 16 and q, 0 where there is no case
pub record ExplainedReturned : Type 0 where
  pub judged : JudgedReturned
  pub alignments : List ℕ
  pub instance : ℕ

unfoldable pub explained_returns : Explained → ExplainedReturned
explained_returns e = record { judged = judged_returns e.judged; alignments = alignments_of e.breaking; instance = instance_of e.breaking }

-- what is returned for row r, by the lengths ls
unfoldable pub explain_returns : Returned → List (List ℕ) → List ℕ → ℕ → ExplainedReturned
explain_returns check ls rows r =
    let c = case_beside Never ls rows r (judge_row ls rows r) in
    record { judged = judge_returns check ls rows r; alignments = alignments_of c; instance = instance_of c }

unfoldable pub explain_faults_returns : Returned → List (List ℕ) → List ℕ → ℕ → ℕ → ExplainedReturned
explain_faults_returns check ls rows r g =
    let c = case_beside (Apart g) ls rows r (judge_faults ls rows r g) in
    record { judged = judge_faults_returns check ls rows r g; alignments = alignments_of c; instance = instance_of c }
