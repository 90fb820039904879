-- The file of the lengths (document 02, request 2): two lines, kind 11 and then kind 29, of nine numbers in columns 5 wide, a line feed
-- after each. Lines and numbers count from 0.
use Rattle.std.specs.Prelude.{ℕ, ◌+◌, ◌*◌, Bool, true, false, cond, not, ◌&&◌, length, get_or, take, drop, eqb, Option, Some, None, Result, Ok}
use mathlib.Core.List.{List, [], ◌∷◌, ◌++◌, map, flat_map}
use Rattle.table_checks.specs.declared.Refusal.{Refusal}
use Rattle.arith.specs.Lists.{exists, range}
use Rattle.decimal.specs.Decimal.{read_column, write_column}
use Rattle.table_checks.specs.declared.Cause.TheVariants.{LengthsFile}
use Rattle.table_checks.specs.Frames.{length_at}
use Rattle.table_checks.specs.Refusal.{failed, Returned, returned}
use Rattle.table_checks.specs.Checks.{first, lengths_check}
use Rattle.table_checks.specs.Returns.{first_returned, lengths_returns}
use Rattle.lengths_file.specs.declared.Loaded.{Loaded}

-- ---- the lengths in a file

-- the characters of number s of line k
unfoldable pub column_at : List ℕ → ℕ → ℕ → List ℕ
column_at file k s = take 5 (drop (46 * k + 5 * s) file)

-- the number in a column, 0 where it breaks the notation
unfoldable pub number_in : Option ℕ → ℕ
number_in (Some n) = n
number_in None = 0

-- the numbers of line k
unfoldable pub line_of : List ℕ → ℕ → List ℕ
line_of file k = map (λ s. number_in (read_column (column_at file k s))) (range 0 9)

abbrev pub lengths_of : List ℕ → List (List ℕ)
lengths_of file = line_of file 0 ∷ line_of file 1 ∷ []

-- ---- "92 bytes in that notation"

unfoldable pub is_unreadable : Option ℕ → Bool
is_unreadable (Some n) = false
is_unreadable None = true

-- whether number s of line k breaks the notation
unfoldable pub is_broken : List ℕ → ℕ → ℕ → Bool
is_broken file k s = is_unreadable (read_column (column_at file k s))

-- whether line k has nine numbers and a line feed
unfoldable pub is_line : List ℕ → ℕ → Bool
is_line file k = eqb (get_or file (46 * k + 45) 0) 10 && not (exists (is_broken file k) (range 0 9))

unfoldable pub is_text : List ℕ → Bool
is_text file = eqb (length file) 92 && (is_line file 0 && is_line file 1)

-- ---- 13, then 14

unfoldable pub text_check : List ℕ → Result (Unit {0}) Refusal
text_check file = cond (is_text file) (Ok tt) (failed LengthsFile 0)

unfoldable pub lengths_file_check : List ℕ → Result (Unit {0}) Refusal
lengths_file_check file = first (text_check file) (lengths_check (lengths_of file))

-- the same in numbers
unfoldable pub lengths_file_returns : List ℕ → Returned
lengths_file_returns file = first_returned (cond (is_text file) (returned 0 0) (returned 13 0)) (lengths_returns (lengths_of file))

-- ---- what reading the file answers

abbrev pub zeros : List ℕ
zeros = 0 ∷ 0 ∷ 0 ∷ 0 ∷ 0 ∷ 0 ∷ 0 ∷ 0 ∷ 0 ∷ []

unfoldable pub loaded : List ℕ → Loaded
loaded file =
    cond (is_text file)
    (record { checked = lengths_check (lengths_of file); short = line_of file 0; long = line_of file 1 })
    (record { checked = failed LengthsFile 0; short = zeros; long = zeros })

-- ---- the file of lengths

unfoldable pub column_text : List (List ℕ) → ℕ → ℕ → List ℕ
column_text ls k s = write_column 5 (length_at ls k s)

-- nine columns and a line feed
unfoldable pub line_text : List (List ℕ) → ℕ → List ℕ
unfolding flat_map
line_text ls k = flat_map (column_text ls k) (range 0 9) ++ (10 ∷ [])

-- two lines
unfoldable pub text_of : List (List ℕ) → List ℕ
unfolding flat_map
text_of ls = flat_map (line_text ls) (range 0 2)
