-- What an answer says of a log (document 02, request 10), in terms of its notation and of the bus rule.
use Rattle.std.specs.Prelude.{ℕ, ◌+◌, ◌*◌, ◌/◌, ◌%◌, ◌≤◌, ◌<◌, List, ◌⊎◌, ◌≡◌, length, get_or, Result, Ok, Err}
use Rattle.table_checks.specs.declared.Refusal.{Refusal}
use Rattle.table_checks.specs.Frames.{frames_of}
use Rattle.table_checks.specs.Refusal.{failed}
use Rattle.table_checks.specs.Checks.{loaded_check}
use Rattle.frame_table.specs.Text.{fields_of}
use Rattle.lengths_file.specs.Lengths.{lengths_of}
use Rattle.lengths_file.specs.Input.{input_check}
use Rattle.bus_log.specs.declared.Line.{Line}
use Rattle.bus_log.specs.Log.{ShortestFailing, ShownStarts}
use Rattle.log_reader.specs.Text.{Stands}
use Rattle.log_check.specs.declared.Cause.{Cause}
use Rattle.log_check.specs.declared.Cause.TheVariants.{Table, Notation, Contradiction}
use Rattle.log_check.specs.declared.Refusal.{Refusal as LogRefusal}
use Rattle.log_check.specs.Check.{lines_of}

-- ---- the notation

-- "up to 1600 lines"
abbrev pub Sized : ℕ → Type 0
Sized size = (size % 40 ≡ 0) × (size ≤ 64_000)

-- the text holds these lines, and nothing else
pub record Holds (text : List ℕ) (log : List Line) : Type 0 where
  pub sized : Sized (length text)
  pub count : length log ≡ length text / 40
  pub stands : (i : ℕ) (l : Line) → i < length log → Stands text (40 * i) (get_or log i l)

-- the first line that breaks notation or limits, from 1
pub record FirstBroken (text : List ℕ) (place : ℕ) : Type 0 where
  pub sized : Sized (length text)
  pub within : (1 ≤ place) × (place ≤ length text / 40)
  pub broken : (i : ℕ) → i + 1 ≡ place → (l : Line) → Stands text (40 * i) l → ⊥
  pub earlier : (i : ℕ) → i + 1 < place → (l : Line) × Stands text (40 * i) l

-- ---- the answer, where the lengths and the table were checked

-- of a refusal
unfoldable pub Refuses : Result (Unit {0}) Refusal → List (List ℕ) → List ℕ → List ℕ → Cause → ℕ → Type 0
Refuses check ls rows text (Table cause) place = check ≡ failed cause place
Refuses check ls rows text Notation place = (check ≡ Ok tt) × (((place ≡ 0) × (Sized (length text) → ⊥)) ⊎ FirstBroken text place)
Refuses check ls rows text Contradiction place =
    (check ≡ Ok tt) × Holds text (lines_of text) × ShortestFailing (frames_of ls rows) rows (lines_of text) place

-- of the starts that are shown, or of a refusal
unfoldable pub Means : Result (Unit {0}) Refusal → List (List ℕ) → List ℕ → List ℕ → Result (List ℕ) LogRefusal → Type 0
Means check ls rows text (Ok starts) =
    (check ≡ Ok tt) × Holds text (lines_of text) × ShownStarts (frames_of ls rows) rows (lines_of text) starts
Means check ls rows text (Err f) = Refuses check ls rows text f.cause f.place

-- for rows in memory
abbrev pub Says : List (List ℕ) → List ℕ → List ℕ → Result (List ℕ) LogRefusal → Type 0
Says ls rows text a = Means (loaded_check ls rows) ls rows text a

-- for lengths and table as bytes
abbrev pub SaysOf : List ℕ → List ℕ → List ℕ → Result (List ℕ) LogRefusal → Type 0
SaysOf lengths table text a = Means (input_check lengths table) (lengths_of lengths) (fields_of table) text a
