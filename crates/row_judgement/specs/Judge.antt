-- The judgement of a row, and its precise bound (document 01, "Judgement" and "Where a call is turned back").
-- Rows count from 0; ls are the lengths that were loaded (document 02, request 2).
use Rattle.std.specs.Prelude.{ℕ, ◌/◌, List, Bool, false, cond, ◌&&◌, leb, length, Result, Ok, Err}
use Rattle.bus_model.specs.declared.Judgement.{Judgement}
use Rattle.row_judgement.specs.declared.Refusal.{Refusal}
use Rattle.table_checks.specs.declared.Refusal.{Refusal as TableRefusal}
use Rattle.bus_model.specs.declared.Frame.{Frame}
use Rattle.bus_model.specs.declared.Faults.TheVariants.{Never, Apart}
use Rattle.bus_model.specs.Frame.{row}
use Rattle.bus_model.specs.Bounds.{precise_bound}
use Rattle.bus_model.specs.Judgement.{lacks_window, too_many_scenarios, certifies, judge}
use Rattle.table_checks.specs.Columns.{field, columns, claim_column}
use Rattle.table_checks.specs.Frames.{frames_of}
use Rattle.table_checks.specs.Checks.{loaded_check}
use Rattle.row_judgement.specs.declared.Cause.TheVariants.{NoSuchRow, NoWindow, TooManyScenarios, GapOutside}
use Rattle.row_judgement.specs.Refusal.{of_table}

-- the claim of row r
abbrev pub claim_of : List ℕ → ℕ → ℕ
claim_of rows r = field rows r claim_column

-- whether there is no row r: 9
abbrev pub no_row : List ℕ → ℕ → Bool
no_row rows r = leb (length rows / columns) r

-- ---- judging a row: the check on lengths, those on tables, then 9

unfoldable pub judge_checked : Result (Unit {0}) TableRefusal → List (List ℕ) → List ℕ → ℕ → Result Judgement Refusal
judge_checked (Err f) ls rows r = Err (of_table f)
judge_checked (Ok _) ls rows r =
    cond (no_row rows r) (Err (record { cause = NoSuchRow; place = 0 }))
    (Ok (judge Never (frames_of ls rows) (row (frames_of ls rows) r) (claim_of rows r)))

unfoldable pub judge_row : List (List ℕ) → List ℕ → ℕ → Result Judgement Refusal
judge_row ls rows r = judge_checked (loaded_check ls rows) ls rows r

-- ---- under the premise that faults begin at least g ticks apart (document 02, request 9): after 9, 17 when g lies outside its limits

abbrev pub is_gap : ℕ → Bool
is_gap g = leb 1 g && leb g 1000000

unfoldable pub judge_faults_checked : Result (Unit {0}) TableRefusal → List (List ℕ) → List ℕ → ℕ → ℕ → Result Judgement Refusal
judge_faults_checked (Err f) ls rows r g = Err (of_table f)
judge_faults_checked (Ok _) ls rows r g =
    cond (no_row rows r) (Err (record { cause = NoSuchRow; place = 0 }))
    (cond (is_gap g) (Ok (judge (Apart g) (frames_of ls rows) (row (frames_of ls rows) r) (claim_of rows r))) (Err (record { cause = GapOutside; place = 0 })))

unfoldable pub judge_faults : List (List ℕ) → List ℕ → ℕ → ℕ → Result Judgement Refusal
judge_faults ls rows r g = judge_faults_checked (loaded_check ls rows) ls rows r g

-- "certified": verdict 1, 2 or 4
unfoldable pub certified : Result Judgement Refusal → Bool
certified (Ok j) = certifies j.outcome
certified (Err f) = false

-- ---- the precise bound alone: the check on lengths, those on tables, 9, 11, 12

unfoldable pub bound_frame : List Frame → ℕ → Result ℕ Refusal
bound_frame fs r =
    cond (lacks_window Never fs (row fs r)) (Err (record { cause = NoWindow; place = r }))
    (cond (too_many_scenarios fs (row fs r)) (Err (record { cause = TooManyScenarios; place = r }))
    (Ok (precise_bound Never fs (row fs r))))

unfoldable pub bound_checked : Result (Unit {0}) TableRefusal → List (List ℕ) → List ℕ → ℕ → Result ℕ Refusal
bound_checked (Err f) ls rows r = Err (of_table f)
bound_checked (Ok _) ls rows r = cond (no_row rows r) (Err (record { cause = NoSuchRow; place = 0 })) (bound_frame (frames_of ls rows) r)

unfoldable pub bound_row : List (List ℕ) → List ℕ → ℕ → Result ℕ Refusal
bound_row ls rows r = bound_checked (loaded_check ls rows) ls rows r
