-- What checking a log returns, in numbers: number and place of a refusal, 0 and 0 where the log is accepted, and beside them the starts of
-- groups 1 to 16, zeros where it is not.
use Rattle.std.specs.Prelude.{ℕ, ◌+◌, cond, List, eqb, length, Option, Some, None, Result, Ok, Err}
use Rattle.table_checks.specs.Frames.{frames_of}
use Rattle.table_checks.specs.Refusal.{Returned, returned}
use Rattle.frame_table.specs.Text.{fields_of}
use Rattle.lengths_file.specs.Lengths.{lengths_of}
use Rattle.lengths_file.specs.Input.{input_returns}
use Rattle.bus_log.specs.Log.{shown_starts}
use Rattle.bus_log.specs.Follow.{follow_log}
use Rattle.log_check.specs.declared.Refusal.{Refusal}
use Rattle.log_check.specs.Refusal.{number_of}
use Rattle.log_check.specs.Check.{no_starts, is_missized, first_broken, lines_of}

pub record LogReturned : Type 0 where
  pub number : ℕ
  pub place : ℕ
  pub starts : List ℕ

abbrev pub as_shown : List ℕ → LogReturned
as_shown starts = record { number = 0; place = 0; starts = starts }

abbrev pub as_refused : Returned → LogReturned
as_refused r = record { number = r.number; place = r.place; starts = no_starts }

-- what an answer returns
unfoldable pub log_returns : Result (List ℕ) Refusal → LogReturned
log_returns (Ok starts) = as_shown starts
log_returns (Err f) = as_refused (returned (number_of f.cause) f.place)

-- the place of a line that was found, from 1, 0 where none was
abbrev pub place_of : Option ℕ → ℕ
place_of (Some i) = i + 1
place_of None = 0

-- what is returned for a log: what the check of lengths and table returns, then 18, then 19, then the starts
unfoldable pub log_returns_for : Returned → List (List ℕ) → List ℕ → List ℕ → LogReturned
log_returns_for check ls rows text =
    let broken = place_of (first_broken text) in
    let failing = (follow_log (frames_of ls rows) rows (lines_of text)).place in
    cond (eqb check.number 0)
    (cond (is_missized (length text)) (as_refused (returned 18 0))
    (cond (eqb broken 0)
    (cond (eqb failing 0) (as_shown (shown_starts (frames_of ls rows) rows (lines_of text))) (as_refused (returned 19 failing)))
    (as_refused (returned 18 broken))))
    (as_refused check)

-- the same for lengths and table as bytes
unfoldable pub files_returns : List ℕ → List ℕ → List ℕ → LogReturned
files_returns lengths table text = log_returns_for (input_returns lengths table) (lengths_of lengths) (fields_of table) text
