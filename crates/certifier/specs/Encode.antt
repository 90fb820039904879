-- The tool's call: one signed number for each answer (document 01, the end of "Where a call is turned back").
use Rattle.std.specs.Prelude.{ℕ, ◌+◌, ◌*◌, ◌^◌, List, ℤ, pos, ◌+ℤ◌, neg_ℤ, Result, Ok, Err}
use Rattle.bus_model.specs.declared.Judgement.{Judgement}
use Rattle.table_checks.specs.declared.Refusal.{Refusal as TableRefusal}
use Rattle.bus_model.specs.Judgement.{verdict}
use Rattle.frame_table.specs.Text.{fields_of}
use Rattle.frame_table.specs.Table.{answer_for}
use Rattle.lengths_file.specs.Lengths.{lengths_of}
use Rattle.lengths_file.specs.Input.{input_check}
use Rattle.row_judgement.specs.declared.Refusal.{Refusal}
use Rattle.row_judgement.specs.Refusal.{number_of, of_table}
use Rattle.row_judgement.specs.Judge.{judge_row, bound_row}
use Rattle.load_sheet.specs.Sheet.{sheet_of}
use Rattle.bus_model.specs.declared.Faults.TheVariants.{Never}
use Rattle.certifier.specs.Listing.{listing_of}

-- ---- lengths and table as bytes: the checks on files, then those on lengths and rows

unfoldable pub judge_read : Result (Unit {0}) TableRefusal → List (List ℕ) → List ℕ → ℕ → Result Judgement Refusal
judge_read (Err f) ls file r = Err (of_table f)
judge_read (Ok _) ls file r = judge_row ls (fields_of file) r

unfoldable pub judge_file : List ℕ → List ℕ → ℕ → Result Judgement Refusal
judge_file lengths file r = judge_read (input_check lengths file) (lengths_of lengths) file r

unfoldable pub bound_read : Result (Unit {0}) TableRefusal → List (List ℕ) → List ℕ → ℕ → Result ℕ Refusal
bound_read (Err f) ls file r = Err (of_table f)
bound_read (Ok _) ls file r = bound_row ls (fields_of file) r

unfoldable pub bound_file : List ℕ → List ℕ → ℕ → Result ℕ Refusal
bound_file lengths file r = bound_read (input_check lengths file) (lengths_of lengths) file r

-- listing and load sheet
abbrev pub list_answer : List ℕ → List ℕ → List ℕ → Result ℕ TableRefusal
list_answer lengths file out = answer_for (input_check lengths file) (listing_of Never (lengths_of lengths) (fields_of file)) out

abbrev pub sheet_answer : List ℕ → List ℕ → List ℕ → Result ℕ TableRefusal
sheet_answer lengths file out = answer_for (input_check lengths file) (sheet_of (lengths_of lengths) (fields_of file)) out

-- ---- as a number

-- minus (number × 10000 + place)
unfoldable pub encode_refusal : Refusal → ℤ
encode_refusal f = neg_ℤ (pos (number_of f.cause * 10000 + f.place))

-- verdict × 10^14 + bound × 10^7 + margin + 10^6
unfoldable pub encode_judged : Result Judgement Refusal → ℤ
encode_judged (Ok j) = pos (verdict j.outcome * 10 ^ 14 + j.bound * 10 ^ 7 + 10 ^ 6) +ℤ j.margin
encode_judged (Err f) = encode_refusal f

-- the bound
unfoldable pub encode_bounded : Result ℕ Refusal → ℤ
encode_bounded (Ok b) = pos b
encode_bounded (Err f) = encode_refusal f

-- how many elements were written
unfoldable pub encode_answer : Result ℕ TableRefusal → ℤ
encode_answer (Ok n) = pos n
encode_answer (Err f) = encode_refusal (of_table f)
