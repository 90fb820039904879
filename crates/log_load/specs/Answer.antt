-- What is answered to a log and a width, and what is left in the output area (document 02, request 11).
use Rattle.std.specs.Prelude.{ℕ, Bool, cond, ◌||◌, List, ◌++◌, length, drop, eqb, ltb, Result, Ok, Err}
use Rattle.log_load.specs.declared.Refusal.{Refusal}
use Rattle.table_checks.specs.declared.Cause.TheVariants.{OutputArea}
use Rattle.frame_table.specs.Text.{fields_of}
use Rattle.bus_log.specs.declared.Line.{Line}
use Rattle.bus_log.specs.Log.{last_end}
use Rattle.log_check.specs.declared.Cause.TheVariants.{Table}
use Rattle.log_check.specs.declared.Refusal.{Refusal as LogRefusal}
use Rattle.log_check.specs.Check.{lines_of, log_answer, files_answer}
use Rattle.log_load.specs.declared.Cause.{Cause}
use Rattle.log_load.specs.declared.Cause.TheVariants.{Log, Width}
use Rattle.log_load.specs.Refusal.{of_log}
use Rattle.log_load.specs.Sheet.{sheet_of}

-- "W is 0 or exceeds the last end"
unfoldable pub is_no_width : ℕ → ℕ → Bool
is_no_width w last = eqb w 0 || ltb last w

abbrev pub refused_at : Cause → ℕ → Result ℕ Refusal
refused_at cause place = Err (record { cause = cause; place = place })

-- 20, and last 8, for an accepted log
unfoldable pub width_answer : List ℕ → List Line → ℕ → List ℕ → Result ℕ Refusal
width_answer rows log w old =
    cond (is_no_width w (last_end log)) (refused_at Width 0)
    (cond (ltb (length old) (length (sheet_of rows log w))) (refused_at (Log (Table OutputArea)) 0) (Ok (length (sheet_of rows log w))))

-- "after 19"
unfoldable pub outcome_answer : Result (List ℕ) LogRefusal → List ℕ → List Line → ℕ → List ℕ → Result ℕ Refusal
outcome_answer (Err f) rows log w old = Err (of_log f)
outcome_answer (Ok starts) rows log w old = width_answer rows log w old

-- for rows in memory
abbrev pub busiest_answer : List (List ℕ) → List ℕ → List ℕ → ℕ → List ℕ → Result ℕ Refusal
busiest_answer ls rows text w old = outcome_answer (log_answer ls rows text) rows (lines_of text) w old

-- for lengths and table as bytes
abbrev pub file_answer : List ℕ → List ℕ → List ℕ → ℕ → List ℕ → Result ℕ Refusal
file_answer lengths table text w old = outcome_answer (files_answer lengths table text) (fields_of table) (lines_of text) w old

-- the area afterwards: what was written and then what stood there before; after a refusal what stood there before
abbrev pub area_after : Result ℕ Refusal → List ℕ → List ℕ → List ℕ
area_after (Ok n) new old = new ++ drop (length new) old
area_after (Err f) new old = old
