-- The frame that ranks last and its worst case (document 02, request 14), for rows and the lengths ls that were loaded.
use Rattle.std.specs.Prelude.{ℕ, List, cond, Option, Some, None, Result, Ok, Err}
use Rattle.row_judgement.specs.declared.Refusal.{Refusal}
use Rattle.table_checks.specs.declared.Refusal.{Refusal as TableRefusal}
use Rattle.bus_model.specs.declared.Frame.{Frame}
use Rattle.bus_model.specs.declared.Faults.TheVariants.{Never}
use Rattle.bus_model.specs.Frame.{row}
use Rattle.bus_model.specs.Judgement.{judge}
use Rattle.bus_model.specs.Worst.{last_row, all_early, worst_starts, worst_instance}
use Rattle.table_checks.specs.Frames.{frames_of}
use Rattle.table_checks.specs.Checks.{loaded_check}
use Rattle.row_judgement.specs.Judge.{claim_of, judge_row, bound_frame}
use Rattle.worst_case.specs.declared.WorstCase.{WorstCase}
use Rattle.worst_case.specs.declared.LastFrame.{LastFrame}

-- by what the operation answers that gives only the exact bound: where that gives it, it is the response
unfoldable pub worst_bounded : List Frame → Frame → Result ℕ Refusal → Option WorstCase
worst_bounded fs k (Ok b) = Some (record { response = b; instance = worst_instance fs k; starts = worst_starts fs k })
worst_bounded fs k (Err f) = None

-- of row r of an accepted table: "in a table whose offsets are below their periods"
unfoldable pub worst_row : List Frame → ℕ → Option WorstCase
worst_row fs r = cond (all_early fs) (worst_bounded fs (row fs r) (bound_frame fs r)) None

-- a refused table shows none
unfoldable pub worst_checked : Result (Unit {0}) TableRefusal → List Frame → Option WorstCase
worst_checked (Err f) fs = None
worst_checked (Ok _) fs = worst_row fs (last_row fs)

-- what judging the last frame's row answers, and its worst case
unfoldable pub worst_of : List (List ℕ) → List ℕ → LastFrame
worst_of ls rows =
    let fs = frames_of ls rows in
    record { judged = judge_row ls rows (last_row fs); worst = worst_checked (loaded_check ls rows) fs }

-- the same for an accepted table
unfoldable pub judged_last : List (List ℕ) → List ℕ → LastFrame
judged_last ls rows =
    let fs = frames_of ls rows in
    let r = last_row fs in
    record { judged = Ok (judge Never fs (row fs r) (claim_of rows r)); worst = worst_row fs r }
