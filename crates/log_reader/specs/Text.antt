-- The text of a log (document 02, request 10): lines of 40 characters, each five columns and a line feed.
use Rattle.std.specs.Prelude.{ℕ, ◌+◌, ◌≤◌, Bool, cond, ◌&&◌, List, ◌≡◌, length, get_or, take, drop, eqb, leb, ltb, Option, Some, None, Result, Ok, Err}
use Rattle.decimal.specs.Decimal.{read_column}
use Rattle.bus_log.specs.declared.Line.{Line}
use Rattle.log_reader.specs.declared.Unread.{Unread}
use Rattle.log_reader.specs.declared.Unread.TheVariants.{Broken, End}

-- "start and queueing up to 9999999999"
abbrev pub greatest : ℕ
greatest = 9_999_999_999

-- the characters of a column, from place `at` on
abbrev pub column_at : List ℕ → ℕ → ℕ → List ℕ
column_at text at width = take width (drop at text)

-- From place `at` on the line l stands: "start (11), identifier (10), kind (3), queueing (11) and length (4), then a line feed",
-- within its limits.
pub record Stands (text : List ℕ) (at : ℕ) (l : Line) : Type 0 where
  pub whole : at + 40 ≤ length text
  pub start : read_column (column_at text at 11) ≡ Some l.start
  pub identifier : read_column (column_at text (at + 11) 10) ≡ Some l.identifier
  pub kind : read_column (column_at text (at + 21) 3) ≡ Some l.kind
  pub queueing : read_column (column_at text (at + 24) 11) ≡ Some l.release
  pub length : read_column (column_at text (at + 35) 4) ≡ Some l.length
  pub feed : get_or text (at + 39) 0 ≡ 10
  pub start-most : l.start ≤ greatest
  pub queueing-most : l.release ≤ greatest

-- ---- what is read, which Laws.antt shows to be the line that stands there

-- what a column holds, a number above all limits where it breaks the notation
unfoldable pub number_of : Option ℕ → ℕ
number_of (Some n) = n
number_of None = 1_000_000_000_000_000_000

unfoldable pub number_at : List ℕ → ℕ → ℕ → ℕ
number_at text at width = number_of (read_column (column_at text at width))

unfoldable pub line_at : List ℕ → ℕ → Line
line_at text at =
    record {
      start = number_at text at 11;
      identifier = number_at text (at + 11) 10;
      kind = number_at text (at + 21) 3;
      release = number_at text (at + 24) 11;
      length = number_at text (at + 35) 4;
    }

-- whether its numbers are within the limits, and so in the notation: no number of ten characters or fewer is above the greatest
unfoldable pub is_within : Line → Bool
is_within l =
    leb l.start greatest
    && (leb l.identifier greatest
    && (leb l.kind greatest
    && (leb l.release greatest
    && leb l.length greatest)))

-- the line that stands from place `at` on, or why none is read
unfoldable pub read_at : List ℕ → ℕ → Result Line Unread
read_at text at =
    cond (ltb (length text) (at + 40)) (Err End)
    (cond (eqb (get_or text (at + 39) 0) 10 && is_within (line_at text at)) (Ok (line_at text at)) (Err Broken))
