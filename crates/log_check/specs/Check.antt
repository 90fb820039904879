-- A log checked against its table (document 02, request 10): what is answered. Verdict.antt has what the answer says.
-- Lines count from 0; ls are the lengths that were loaded (document 02, request 2).
use Rattle.std.specs.Prelude.{ℕ, ◌+◌, ◌*◌, ◌/◌, ◌%◌, Bool, cond, not, ◌||◌, List, map, length, replicate, eqb, ltb, is_err, Option, Some, None, Result, Ok, Err}
use Rattle.table_checks.specs.declared.Refusal.{Refusal as TableRefusal}
use Rattle.arith.specs.Lists.{range}
use Rattle.arith.specs.Least.{least}
use Rattle.bus_model.specs.declared.Frame.{Frame}
use Rattle.table_checks.specs.Frames.{frames_of}
use Rattle.table_checks.specs.Checks.{loaded_check}
use Rattle.frame_table.specs.Text.{fields_of}
use Rattle.lengths_file.specs.Lengths.{lengths_of}
use Rattle.lengths_file.specs.Input.{input_check}
use Rattle.bus_log.specs.declared.Line.{Line}
use Rattle.bus_log.specs.Log.{shown_starts}
use Rattle.bus_log.specs.Follow.{follow_log}
use Rattle.log_reader.specs.Text.{line_at, read_at}
use Rattle.log_check.specs.declared.Cause.{Cause}
use Rattle.log_check.specs.declared.Cause.TheVariants.{Notation, Contradiction}
use Rattle.log_check.specs.declared.Refusal.{Refusal}
use Rattle.log_check.specs.Refusal.{of_table}

-- ---- the text

-- "its length is no multiple of 40 or beyond 64000"
unfoldable pub is_missized : ℕ → Bool
is_missized size = not (eqb (size % 40) 0) || ltb 64_000 size

-- whether line i breaks the notation or the limits
unfoldable pub is_broken : List ℕ → ℕ → Bool
is_broken text i = is_err (read_at text (40 * i))

-- the first that does
unfoldable pub first_broken : List ℕ → Option ℕ
first_broken text = least (is_broken text) (length text / 40) 0

-- the lines
unfoldable pub lines_of : List ℕ → List Line
lines_of text = map (λ i. line_at text (40 * i)) (range 0 (length text / 40))

-- ---- the answer

abbrev pub accepted_with : List ℕ → Result (List ℕ) Refusal
accepted_with starts = Ok starts

-- no starts are shown
abbrev pub no_starts : List ℕ
no_starts = replicate 16 0

abbrev pub refused : Refusal → Result (List ℕ) Refusal
refused f = Err f

abbrev pub refused_at : Cause → ℕ → Result (List ℕ) Refusal
refused_at cause place = refused (record { cause = cause; place = place })

-- the starts of groups 1 to 16, or 19
unfoldable pub followed_answer : List Frame → List ℕ → List Line → Result (List ℕ) Refusal
followed_answer fs t log =
    cond (eqb (follow_log fs t log).place 0) (accepted_with (shown_starts fs t log)) (refused_at Contradiction (follow_log fs t log).place)

-- before that 18 at a line
unfoldable pub line_answer : List (List ℕ) → List ℕ → List ℕ → Option ℕ → Result (List ℕ) Refusal
line_answer ls rows text (Some i) = refused_at Notation (i + 1)
line_answer ls rows text None = followed_answer (frames_of ls rows) rows (lines_of text)

-- before that 18 for the length
unfoldable pub text_answer : List (List ℕ) → List ℕ → List ℕ → Result (List ℕ) Refusal
text_answer ls rows text = cond (is_missized (length text)) (refused_at Notation 0) (line_answer ls rows text (first_broken text))

-- "after the table's own checks"
unfoldable pub checked_answer : Result (Unit {0}) TableRefusal → List (List ℕ) → List ℕ → List ℕ → Result (List ℕ) Refusal
checked_answer (Err f) ls rows text = refused (of_table f)
checked_answer (Ok _) ls rows text = text_answer ls rows text

-- for rows in memory
unfoldable pub log_answer : List (List ℕ) → List ℕ → List ℕ → Result (List ℕ) Refusal
log_answer ls rows text = checked_answer (loaded_check ls rows) ls rows text

-- for lengths and table as bytes
unfoldable pub files_answer : List ℕ → List ℕ → List ℕ → Result (List ℕ) Refusal
files_answer lengths table text = checked_answer (input_check lengths table) (lengths_of lengths) (fields_of table) text
