-- Tables that were accepted while an offset had to be below its period have the same answers: what the calls answered with the checks and
-- the bounds of document 01, and the laws that they answer the same.
use Prim.Native.Nat.{ℕ, zero, suc, ◌+◌, ◌/◌, ◌≤◌, ◌<◌}
use Rattle.std.specs.Prelude.{◌≡◌, ◌↔◌, length, Result, Ok, Err}
use Rattle.std.proofs.Math.Path.{refl, ap, ap₂}
use Rattle.std.proofs.Common.{sym, ◌∙◌, arith}
use mathlib.Core.List.{List, [], ◌++◌, map}
use Rattle.bus_model.specs.declared.Judgement.{Judgement}
use Rattle.row_judgement.specs.declared.Refusal.{Refusal}
use Rattle.table_checks.specs.declared.Refusal.{Refusal as TableRefusal}
use Rattle.bus_model.specs.Frame.{row}
use Rattle.bus_model.specs.Bus.{Transmission, Schedule}
use Rattle.bus_model.proofs.Theory.Alike.{early}
use Rattle.bus_model.proofs.Theory.Offsets.{judge_with, offset_of}
use Rattle.bus_model.specs.declared.Faults.TheVariants.{Never}
use Rattle.table_checks.specs.Columns.{field, columns, identifier_column}
use Rattle.table_checks.specs.Frames.{frames_of}
use Rattle.table_checks.specs.Checks.{first, file_size_check, Accepted}
use Rattle.table_checks.proofs.Laws.First.{first-passed}
use Rattle.table_checks.proofs.Laws.Offsets.{table_check_with, former_limit, FormerlyAccepted, EarlyRows, table_kept, table-early, formerly}
use Rattle.frame_table.specs.Text.{fields_of}
use Rattle.frame_table.specs.Table.{read_check, answer_for}
use Rattle.lengths_file.specs.Lengths.{lengths_of, lengths_file_check}
use Rattle.lengths_file.specs.Input.{input_check}
use Rattle.row_judgement.specs.Refusal.{of_table}
use Rattle.row_judgement.specs.Judge.{claim_of, judge_row, bound_row}
use Rattle.row_judgement.specs.Laws.Offsets.{judge_row_former, bound_row_former, frame-judged-kept, judge-row-kept, bound-row-kept, table-schedules-kept}
use Rattle.load_sheet.specs.Sheet.{sheet_of}
use Rattle.certifier.specs.Listing.{listing_line, line_of, lines_from, listing_of}
use Rattle.certifier.specs.Encode.{judge_read, judge_file, bound_read, bound_file, list_answer, sheet_answer}

-- ---- as it was

unfoldable pub read_check_former : List ℕ → Result (Unit {0}) TableRefusal
read_check_former file = first (file_size_check (length file)) (table_check_with former_limit (fields_of file))

unfoldable pub input_check_former : List ℕ → List ℕ → Result (Unit {0}) TableRefusal
input_check_former lengths file = first (lengths_file_check lengths) (read_check_former file)

unfoldable pub judge_read_former : Result (Unit {0}) TableRefusal → List (List ℕ) → List ℕ → ℕ → Result Judgement Refusal
judge_read_former (Err f) ls file r = Err (of_table f)
judge_read_former (Ok _) ls file r = judge_row_former ls (fields_of file) r

unfoldable pub judge_file_former : List ℕ → List ℕ → ℕ → Result Judgement Refusal
judge_file_former lengths file r = judge_read_former (input_check_former lengths file) (lengths_of lengths) file r

unfoldable pub bound_read_former : Result (Unit {0}) TableRefusal → List (List ℕ) → List ℕ → ℕ → Result ℕ Refusal
bound_read_former (Err f) ls file r = Err (of_table f)
bound_read_former (Ok _) ls file r = bound_row_former ls (fields_of file) r

unfoldable pub bound_file_former : List ℕ → List ℕ → ℕ → Result ℕ Refusal
bound_file_former lengths file r = bound_read_former (input_check_former lengths file) (lengths_of lengths) file r

unfoldable pub line_former : List (List ℕ) → List ℕ → ℕ → List ℕ
line_former ls rows i = listing_line (field rows i identifier_column) (judge_with offset_of Never (frames_of ls rows) (row (frames_of ls rows) i) (claim_of rows i))

unfoldable pub lines_former : List (List ℕ) → List ℕ → ℕ → ℕ → List ℕ
lines_former ls rows zero i = []
lines_former ls rows (suc n) i = line_former ls rows i ++ lines_former ls rows n (i + 1)

unfoldable pub listing_former : List (List ℕ) → List ℕ → List ℕ
listing_former ls rows = lines_former ls rows (length rows / columns) 0

abbrev pub list_answer_former : List ℕ → List ℕ → List ℕ → Result ℕ TableRefusal
list_answer_former lengths file out = answer_for (input_check_former lengths file) (listing_former (lengths_of lengths) (fields_of file)) out

-- a load sheet reads no offset
abbrev pub sheet_answer_former : List ℕ → List ℕ → List ℕ → Result ℕ TableRefusal
sheet_answer_former lengths file out = answer_for (input_check_former lengths file) (sheet_of (lengths_of lengths) (fields_of file)) out

-- ---- a file that was accepted

-- Each offset in it is below its period,
pub file-early : (file : List ℕ) → read_check_former file ≡ Ok tt → EarlyRows (fields_of file)
unfolding read_check_former
file-early file e = table-early (fields_of file) (first-passed (file_size_check (length file)) (table_check_with former_limit (fields_of file)) e).1

-- ---- where each offset is below its period, the answers are the same

-- the listing,
module _ (ls : List (List ℕ)) (rows : List ℕ) (before : EarlyRows rows) where
  line_kept : (i : ℕ) → i < length rows / columns → line_of Never ls rows i ≡ line_former ls rows i
  unfolding line_of line_former
  line_kept i l = ap (λ j. listing_line (field rows i identifier_column) (j (claim_of rows i))) (frame-judged-kept ls rows before i l)

  lines-kept : (n i : ℕ) → i + n ≤ length rows / columns → lines_from Never ls rows n i ≡ lines_former ls rows n i
  unfolding lines_former
  lines-kept zero i l = refl
  lines-kept (suc n) i l = ap₂ (λ (x y : List ℕ). x ++ y) (line_kept i (omega arith)) (lines-kept n (i + 1) (omega arith))

  pub listing-kept : listing_of Never ls rows ≡ listing_former ls rows
  unfolding listing_of listing_former
  listing-kept = lines-kept (length rows / columns) 0 (omega arith)

module _ (file : List ℕ) (before : EarlyRows (fields_of file)) where
  -- the check of a file,
  pub read_kept : read_check file ≡ read_check_former file
  unfolding read_check read_check_former
  read_kept = ap (first (file_size_check (length file))) (sym (table_kept (fields_of file) before))

  module _ (lengths : List ℕ) where
    pub input-kept : input_check lengths file ≡ input_check_former lengths file
    unfolding input_check input_check_former
    input-kept = ap (first (lengths_file_check lengths)) read_kept

    -- and what the calls answer.
    pub judge-file-kept : (r : ℕ) → judge_file lengths file r ≡ judge_file_former lengths file r
    unfolding judge_file judge_file_former judge_read judge_read_former
    judge-file-kept r = rw input-kept (go (input_check_former lengths file))
      where
        go : (c : Result (Unit {0}) TableRefusal) → judge_read c (lengths_of lengths) file r ≡ judge_read_former c (lengths_of lengths) file r
        go (Err f) = refl
        go (Ok tt) = judge-row-kept (lengths_of lengths) (fields_of file) before r

    pub bound-file-kept : (r : ℕ) → bound_file lengths file r ≡ bound_file_former lengths file r
    unfolding bound_file bound_file_former bound_read bound_read_former
    bound-file-kept r = rw input-kept (go (input_check_former lengths file))
      where
        go : (c : Result (Unit {0}) TableRefusal) → bound_read c (lengths_of lengths) file r ≡ bound_read_former c (lengths_of lengths) file r
        go (Err f) = refl
        go (Ok tt) = bound-row-kept (lengths_of lengths) (fields_of file) before r

    pub list-kept : (out : List ℕ) → list_answer lengths file out ≡ list_answer_former lengths file out
    list-kept out = ap₂ (λ (c : Result (Unit {0}) TableRefusal) (new : List ℕ). answer_for c new out) input-kept (listing-kept (lengths_of lengths) (fields_of file) before)

    pub sheet-kept : (out : List ℕ) → sheet_answer lengths file out ≡ sheet_answer_former lengths file out
    sheet-kept out = ap (λ (c : Result (Unit {0}) TableRefusal). answer_for c (sheet_of (lengths_of lengths) (fields_of file)) out) input-kept

-- So a file that was accepted is accepted.
pub file-kept : (file : List ℕ) → read_check_former file ≡ Ok tt → read_check file ≡ Ok tt
file-kept file e = read_kept file (file-early file e) ∙ e

-- ---- a table that was accepted: all of it in one theorem

pub record Kept (ls : List (List ℕ)) (rows : List ℕ) : Type 0 where
  pub accepted : Accepted rows
  pub judged : (r : ℕ) → judge_row ls rows r ≡ judge_row_former ls rows r
  pub bounded : (r : ℕ) → bound_row ls rows r ≡ bound_row_former ls rows r
  pub listed : listing_of Never ls rows ≡ listing_former ls rows
  pub scheduled : (starts : ℕ → ℕ) (T : ℕ) (xs : List Transmission)
      → Schedule Never (frames_of ls rows) starts T xs ↔ Schedule Never (map early (frames_of ls rows)) starts T xs

-- It is accepted, and judgements, bounds, listing and schedules are those with the offset in place of the phase.
pub formerly-kept : (ls : List (List ℕ)) (rows : List ℕ) → FormerlyAccepted rows → Kept ls rows
formerly-kept ls rows e =
    let (accepted, before) = (formerly rows).0 e in
    record {
      accepted = accepted;
      judged = judge-row-kept ls rows before;
      bounded = bound-row-kept ls rows before;
      listed = listing-kept ls rows before;
      scheduled = table-schedules-kept ls rows before;
    }
