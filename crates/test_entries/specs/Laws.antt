-- The results of an accepted table, and of lengths, are few enough for their count to be answered; numbers as lengths.
use Rattle.std.specs.Prelude.{ℕ, ◌+◌, ◌/◌, ◌<◌, ◌≡◌, List, length, get_or}
use Rattle.std.proofs.Common.{◌∙◌, arith, zero-add}
use Rattle.std.proofs.lemmas.List.{length-map}
use Rattle.arith.specs.Lists.{range}
use Rattle.arith.specs.Laws.Members.{length-range, get_d-table}
use Rattle.arith.specs.Laws.Lines.{length-lines}
use Rattle.table_checks.specs.Columns.{columns}
use Rattle.table_checks.specs.Checks.{lengths_check, rows_check}
use Rattle.table_checks.proofs.Laws.Accepted.{accepted-size}
use Rattle.frame_table.specs.Text.{fields_of, text_of}
use Rattle.frame_table.specs.Table.{read_check, answer_for}
use Rattle.frame_table.specs.Laws.Layout.{table-lines}
use Rattle.frame_table.specs.Laws.RoundTrip.{text-read}
use Rattle.lengths_file.specs.Lengths.{text_of as lengths_text_of}
use Rattle.lengths_file.proofs.Laws.Layout.{length-text}
use Rattle.certifier.specs.Steps.{Countable}
use Rattle.certifier.proofs.Laws.Answers.{countable}
use Rattle.test_entries.specs.Lengths.{line_from}
use Rattle.test_entries.specs.Encode.{read_answer, write_answer}

pub read-countable : (file rows : List ℕ) → Countable (read_answer file rows)
read-countable file rows =
    countable (read_check file) (fields_of file) rows
    (λ e. let most = (accepted-size (fields_of file) (text-read file e).0).most in omega arith)

pub write-countable : (rows file : List ℕ) → Countable (write_answer rows file)
unfolding text_of
write-countable rows file =
    countable (rows_check rows) (text_of rows) file
    (λ e. let most = (accepted-size rows e).most in
    let size = length-lines (table-lines rows) (length rows / columns) 0 in omega arith)

pub lengths-countable : (ls : List (List ℕ)) (file : List ℕ) → Countable (answer_for (lengths_check ls) (lengths_text_of ls) file)
lengths-countable ls file = countable (lengths_check ls) (lengths_text_of ls) file (λ e. omega (arith, length-text ls))

-- ---- numbers as lengths

pub length-from : (numbers : List ℕ) (from : ℕ) → length (line_from numbers from) ≡ 9
unfolding line_from
length-from numbers from = length-map (range 0 9) _ ∙ length-range 0 9

pub number-from : (numbers : List ℕ) (from s : ℕ) → s < 9 → get_or (line_from numbers from) s 0 ≡ get_or numbers (from + s) 0
unfolding line_from
number-from numbers from s l = get_d-table (λ i. get_or numbers (from + i) 0) 0 9 s 0 l ∙ rw (zero-add s)
