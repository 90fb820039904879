-- What the operations with an output area answer, and one signed number for each answer.
use Rattle.std.specs.Prelude.{ℕ, List, ℤ, pos, Result, Ok, Err}
use Rattle.table_checks.specs.declared.Refusal.{Refusal}
use Rattle.table_checks.specs.Checks.{lengths_check, rows_check}
use Rattle.frame_table.specs.Text.{fields_of, text_of}
use Rattle.frame_table.specs.Table.{read_check, answer_for}
use Rattle.lengths_file.specs.Lengths.{text_of as lengths_text_of}
use Rattle.row_judgement.specs.Refusal.{of_table}
use Rattle.certifier.specs.Encode.{encode_refusal}
use Rattle.test_entries.specs.Lengths.{array_of}

-- ---- as frame_table and lengths_file answer

abbrev pub read_answer : List ℕ → List ℕ → Result ℕ Refusal
read_answer file rows = answer_for (read_check file) (fields_of file) rows

abbrev pub write_answer : List ℕ → List ℕ → Result ℕ Refusal
write_answer rows file = answer_for (rows_check rows) (text_of rows) file

-- the lengths are given as numbers
abbrev pub write_lengths_answer : List ℕ → List ℕ → Result ℕ Refusal
write_lengths_answer numbers file = answer_for (lengths_check (array_of numbers)) (lengths_text_of (array_of numbers)) file

-- ---- as a number

-- 0 for a check that passed
unfoldable pub encode_checked : Result (Unit {0}) Refusal → ℤ
encode_checked (Ok _) = pos 0
encode_checked (Err f) = encode_refusal (of_table f)
