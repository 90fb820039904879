-- With document 01's lengths loaded every answer is as before: the definitions as they stood without loaded lengths, and the laws that they are
-- the same.
use Rattle.std.specs.Prelude.{ℕ, zero, suc, ◌+◌, ◌/◌, ◌≡◌, cond, List, [], ◌++◌, length, get_or, Result, Ok, Err}
use Rattle.std.proofs.Math.Path.{refl}
use Rattle.std.proofs.Common.{sym, ap, ap₂}
use Rattle.bus_model.specs.declared.Judgement.{Judgement}
use Rattle.row_judgement.specs.declared.Refusal.{Refusal}
use Rattle.table_checks.specs.declared.Refusal.{Refusal as TableRefusal}
use Rattle.bus_model.specs.Frame.{row}
use Rattle.bus_model.specs.Judgement.{judge}
use Rattle.bus_model.specs.declared.Faults.TheVariants.{Never}
use Rattle.table_checks.specs.Columns.{field, columns, identifier_column}
use Rattle.table_checks.specs.Frames.{standard_lengths, frames_of, unmeasured}
use Rattle.table_checks.specs.Checks.{first, first_of, file_size_check, rows_size_check, lines_check, group_check, groups_check, table_check, rows_check, loaded_check}
use Rattle.table_checks.proofs.Laws.Lengths.{standard-loadable}
use Rattle.table_checks.proofs.Laws.Accepted.{hyper-same, releases-same}
use Rattle.table_checks.proofs.Laws.Before.{frames_before, frames-before}
use Rattle.frame_table.specs.Text.{fields_of}
use Rattle.frame_table.specs.Table.{read_check, answer_for}
use Rattle.lengths_file.specs.Lengths.{lengths_of, lengths_file_check, text_of}
use Rattle.lengths_file.specs.Input.{input_check}
use Rattle.lengths_file.proofs.Laws.RoundTrip.{read-text}
use Rattle.row_judgement.specs.declared.Cause.TheVariants.{NoSuchRow}
use Rattle.row_judgement.specs.Refusal.{of_table}
use Rattle.row_judgement.specs.Judge.{claim_of, no_row, judge_checked, judge_row, bound_frame, bound_checked, bound_row}
use Rattle.certifier.specs.Listing.{listing_line, line_of, lines_from, listing_of}
use Rattle.certifier.specs.Encode.{judge_read, judge_file, bound_read, bound_file, list_answer}

-- ---- before

unfoldable pub table_check_before : List ℕ → Result (Unit {0}) TableRefusal
table_check_before t = first (lines_check t) (groups_check (frames_before t))

unfoldable pub rows_check_before : List ℕ → Result (Unit {0}) TableRefusal
rows_check_before rows = first (rows_size_check (length rows)) (table_check_before rows)

unfoldable pub judge_checked_before : Result (Unit {0}) TableRefusal → List ℕ → ℕ → Result Judgement Refusal
judge_checked_before (Err f) rows r = Err (of_table f)
judge_checked_before (Ok _) rows r =
    cond (no_row rows r) (Err (record { cause = NoSuchRow; place = 0 }))
    (Ok (judge Never (frames_before rows) (row (frames_before rows) r) (claim_of rows r)))

unfoldable pub judge_row_before : List ℕ → ℕ → Result Judgement Refusal
judge_row_before rows r = judge_checked_before (rows_check_before rows) rows r

unfoldable pub bound_checked_before : Result (Unit {0}) TableRefusal → List ℕ → ℕ → Result ℕ Refusal
bound_checked_before (Err f) rows r = Err (of_table f)
bound_checked_before (Ok _) rows r = cond (no_row rows r) (Err (record { cause = NoSuchRow; place = 0 })) (bound_frame (frames_before rows) r)

unfoldable pub bound_row_before : List ℕ → ℕ → Result ℕ Refusal
bound_row_before rows r = bound_checked_before (rows_check_before rows) rows r

unfoldable pub line_before : List ℕ → ℕ → List ℕ
line_before rows i = listing_line (field rows i identifier_column) (judge Never (frames_before rows) (row (frames_before rows) i) (claim_of rows i))

unfoldable pub lines_before : List ℕ → ℕ → ℕ → List ℕ
lines_before rows zero i = []
lines_before rows (suc n) i = line_before rows i ++ lines_before rows n (i + 1)

unfoldable pub listing_before : List ℕ → List ℕ
listing_before rows = lines_before rows (length rows / columns) 0

-- of files, where no lengths were passed
unfoldable pub read_check_before : List ℕ → Result (Unit {0}) TableRefusal
read_check_before file = first (file_size_check (length file)) (table_check_before (fields_of file))

unfoldable pub judge_read_before : Result (Unit {0}) TableRefusal → List ℕ → ℕ → Result Judgement Refusal
judge_read_before (Err f) file r = Err (of_table f)
judge_read_before (Ok _) file r = judge_row_before (fields_of file) r

unfoldable pub bound_read_before : Result (Unit {0}) TableRefusal → List ℕ → ℕ → Result ℕ Refusal
bound_read_before (Err f) file r = Err (of_table f)
bound_read_before (Ok _) file r = bound_row_before (fields_of file) r

-- ---- the checks are the same: they ask for no length

first_of-same : (c d : ℕ → Result (Unit {0}) TableRefusal) → ((n : ℕ) → c n ≡ d n) → (m n : ℕ) → first_of c m n ≡ first_of d m n
unfolding first_of
first_of-same c d same zero n = refl
first_of-same c d same (suc m) n = ap₂ first (same n) (first_of-same c d same m (n + 1))

group-same : (ls : List (List ℕ)) (t : List ℕ) (j : ℕ) → group_check (frames_of ls t) j ≡ group_check (unmeasured t) j
unfolding group_check
group-same ls t j = rw (hyper-same ls t j, releases-same ls t j)

table-check-before : (t : List ℕ) → table_check t ≡ table_check_before t
unfolding table_check table_check_before groups_check
table-check-before t =
    rw (← frames-before t)
    (ap (first (lines_check t)) (sym (first_of-same (group_check (frames_of standard_lengths t)) (group_check (unmeasured t)) (group-same standard_lengths t) 16 1)))

pub rows-check-before : (rows : List ℕ) → rows_check rows ≡ rows_check_before rows
unfolding rows_check rows_check_before
rows-check-before rows = ap (first (rows_size_check (length rows))) (table-check-before rows)

loaded-before : (rows : List ℕ) → loaded_check standard_lengths rows ≡ rows_check_before rows
unfolding loaded_check
loaded-before rows = rw standard-loadable (rows-check-before rows)

-- ---- the answers are the same

-- Every judgement is as before,
pub judge-before : (rows : List ℕ) (r : ℕ) → judge_row standard_lengths rows r ≡ judge_row_before rows r
unfolding judge_row judge_row_before judge_checked judge_checked_before
judge-before rows r = rw (loaded-before rows) (go (rows_check_before rows))
  where
    go : (c : Result (Unit {0}) TableRefusal) → judge_checked c standard_lengths rows r ≡ judge_checked_before c rows r
    go (Err f) = refl
    go (Ok tt) = rw (frames-before rows)

-- every bound,
pub bound-before : (rows : List ℕ) (r : ℕ) → bound_row standard_lengths rows r ≡ bound_row_before rows r
unfolding bound_row bound_row_before bound_checked bound_checked_before
bound-before rows r = rw (loaded-before rows) (go (rows_check_before rows))
  where
    go : (c : Result (Unit {0}) TableRefusal) → bound_checked c standard_lengths rows r ≡ bound_checked_before c rows r
    go (Err f) = refl
    go (Ok tt) = rw (frames-before rows)

-- and every line.
line-before : (rows : List ℕ) (i : ℕ) → line_of Never standard_lengths rows i ≡ line_before rows i
unfolding line_of line_before
line-before rows i = rw (frames-before rows)

lines-before : (rows : List ℕ) (n i : ℕ) → lines_from Never standard_lengths rows n i ≡ lines_before rows n i
unfolding lines_before
lines-before rows zero i = refl
lines-before rows (suc n) i = ap₂ (λ (x y : List ℕ). x ++ y) (line-before rows i) (lines-before rows n (i + 1))

pub listing-before : (rows : List ℕ) → listing_of Never standard_lengths rows ≡ listing_before rows
unfolding listing_of listing_before
listing-before rows = lines-before rows (length rows / columns) 0

-- ---- the calls: what they answer of document 01's lengths in a file is what they answered of the table alone

-- That file passes, and holds these lengths.
standard-file : (lengths_file_check (text_of standard_lengths) ≡ Ok tt) × (lengths_of (text_of standard_lengths) ≡ standard_lengths)
standard-file = read-text (get_or standard_lengths 0 []) (get_or standard_lengths 1 []) refl refl standard-loadable

input-before : (file : List ℕ) → input_check (text_of standard_lengths) file ≡ read_check_before file
unfolding input_check read_check read_check_before
input-before file = rw standard-file.0 (ap (first (file_size_check (length file))) (table-check-before (fields_of file)))

module _ (file : List ℕ) where
  pub judge-file-before : (r : ℕ) → judge_file (text_of standard_lengths) file r ≡ judge_read_before (read_check_before file) file r
  unfolding judge_file judge_read judge_read_before
  judge-file-before r = rw (input-before file, standard-file.1) (go (read_check_before file))
    where
      go : (c : Result (Unit {0}) TableRefusal) → judge_read c standard_lengths file r ≡ judge_read_before c file r
      go (Err f) = refl
      go (Ok tt) = judge-before (fields_of file) r

  pub bound-file-before : (r : ℕ) → bound_file (text_of standard_lengths) file r ≡ bound_read_before (read_check_before file) file r
  unfolding bound_file bound_read bound_read_before
  bound-file-before r = rw (input-before file, standard-file.1) (go (read_check_before file))
    where
      go : (c : Result (Unit {0}) TableRefusal) → bound_read c standard_lengths file r ≡ bound_read_before c file r
      go (Err f) = refl
      go (Ok tt) = bound-before (fields_of file) r

  pub list-before : (out : List ℕ) → list_answer (text_of standard_lengths) file out ≡ answer_for (read_check_before file) (listing_before (fields_of file)) out
  list-before out = rw (input-before file, standard-file.1, listing-before (fields_of file))
