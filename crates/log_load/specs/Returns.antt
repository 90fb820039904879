-- What is returned for a log and a width, in numbers: number and place of a refusal, 0 and 0 where there is none, and how many characters
-- were written.
use Rattle.std.specs.Prelude.{ℕ, cond, List, Result, Ok, Err}
use Rattle.log_load.specs.declared.Refusal.{Refusal}
use Rattle.table_checks.specs.Refusal.{Returned, returned}
use Rattle.table_checks.specs.Returns.{first_returned, loaded_returns}
use Rattle.frame_table.specs.Table.{Answered, answered, returns_for}
use Rattle.frame_table.specs.Text.{fields_of}
use Rattle.bus_log.specs.declared.Line.{Line}
use Rattle.bus_log.specs.Log.{last_end}
use Rattle.log_check.specs.Check.{lines_of}
use Rattle.log_check.specs.Returns.{LogReturned, log_returns_for, files_returns}
use Rattle.log_load.specs.Refusal.{number_of}
use Rattle.log_load.specs.Sheet.{sheet_of}
use Rattle.log_load.specs.Answer.{is_no_width}

-- what an answer returns
unfoldable pub answer_returns : Result ℕ Refusal → Answered
answer_returns (Ok n) = answered 0 0 n
answer_returns (Err f) = answered (number_of f.cause) f.place 0

-- 20, for an accepted log whose last end is `last`
unfoldable pub width_returns : ℕ → ℕ → Returned
width_returns w last = cond (is_no_width w last) (returned 20 0) (returned 0 0)

-- what is returned: what the check of lengths, table and log returns, then 20, then 8
unfoldable pub returns_after : LogReturned → List ℕ → List Line → ℕ → List ℕ → Answered
returns_after r rows log w old =
    returns_for (first_returned (returned r.number r.place) (width_returns w (last_end log))) (sheet_of rows log w) old

-- for rows in memory
abbrev pub busiest_returns : List (List ℕ) → List ℕ → List ℕ → ℕ → List ℕ → Answered
busiest_returns ls rows text w old = returns_after (log_returns_for (loaded_returns ls rows) ls rows text) rows (lines_of text) w old

-- for lengths and table as bytes
abbrev pub file_returns : List ℕ → List ℕ → List ℕ → ℕ → List ℕ → Answered
file_returns lengths table text w old = returns_after (files_returns lengths table text) (fields_of table) (lines_of text) w old
