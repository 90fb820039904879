-- The listing under the premise that faults begin at least g ticks apart (document 02, request 9): the checks on files, then 17; 8 comes last.
use Rattle.std.specs.Prelude.{ℕ, List, cond, Result, Ok, Err}
use Rattle.row_judgement.specs.declared.Refusal.{Refusal}
use Rattle.table_checks.specs.declared.Refusal.{Refusal as TableRefusal}
use Rattle.bus_model.specs.declared.Faults.TheVariants.{Apart}
use Rattle.table_checks.specs.Refusal.{Returned, returned}
use Rattle.table_checks.specs.Returns.{first_returned}
use Rattle.frame_table.specs.Text.{fields_of}
use Rattle.frame_table.specs.Table.{answer_for, area_after, Answered, answered, returns_for}
use Rattle.lengths_file.specs.Lengths.{lengths_of}
use Rattle.lengths_file.specs.Input.{input_check, input_returns}
use Rattle.row_judgement.specs.declared.Cause.TheVariants.{GapOutside}
use Rattle.row_judgement.specs.Refusal.{number_of, of_table}
use Rattle.row_judgement.specs.Judge.{is_gap}
use Rattle.certifier.specs.Listing.{listing_of}

-- what writing the listing answers
abbrev pub listed_by : Result ℕ TableRefusal → Result ℕ Refusal
listed_by (Ok n) = Ok n
listed_by (Err f) = Err (of_table f)

-- what is answered for the rows of an accepted table, and what the area is then
unfoldable pub list_faults_rows : List (List ℕ) → List ℕ → ℕ → List ℕ → Result ℕ Refusal
list_faults_rows ls rows g old =
    cond (is_gap g) (listed_by (answer_for (Ok tt) (listing_of (Apart g) ls rows) old)) (Err (record { cause = GapOutside; place = 0 }))

unfoldable pub listed_rows : List (List ℕ) → List ℕ → ℕ → List ℕ → List ℕ
listed_rows ls rows g old = cond (is_gap g) (area_after (answer_for (Ok tt) (listing_of (Apart g) ls rows) old) (listing_of (Apart g) ls rows) old) old

-- the same for files
unfoldable pub list_faults_read : Result (Unit {0}) TableRefusal → List (List ℕ) → List ℕ → ℕ → List ℕ → Result ℕ Refusal
list_faults_read (Err f) ls file g old = Err (of_table f)
list_faults_read (Ok _) ls file g old = list_faults_rows ls (fields_of file) g old

unfoldable pub listed_read : Result (Unit {0}) TableRefusal → List (List ℕ) → List ℕ → ℕ → List ℕ → List ℕ
listed_read (Err f) ls file g old = old
listed_read (Ok _) ls file g old = listed_rows ls (fields_of file) g old

abbrev pub list_faults_file : List ℕ → List ℕ → ℕ → List ℕ → Result ℕ Refusal
list_faults_file lengths file g old = list_faults_read (input_check lengths file) (lengths_of lengths) file g old

abbrev pub listed_file : List ℕ → List ℕ → ℕ → List ℕ → List ℕ
listed_file lengths file g old = listed_read (input_check lengths file) (lengths_of lengths) file g old

-- ---- in numbers

-- what an answer returns: number and place of a refusal, 0 and 0 where there is none, and how many bytes were written
unfoldable pub listed_returns : Result ℕ Refusal → Answered
listed_returns (Ok n) = answered 0 0 n
listed_returns (Err f) = answered (number_of f.cause) f.place 0

-- "17 when G lies outside 1..1000000"
unfoldable pub gap_returns : ℕ → Returned
gap_returns g = cond (is_gap g) (returned 0 0) (returned 17 0)

-- what is returned for files: what their check returns, then 17, and 8 last
abbrev pub list_faults_returns : List ℕ → List ℕ → ℕ → List ℕ → Answered
list_faults_returns lengths file g old =
    returns_for (first_returned (input_returns lengths file) (gap_returns g)) (listing_of (Apart g) (lengths_of lengths) (fields_of file)) old
