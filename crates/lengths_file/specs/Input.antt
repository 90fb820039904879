-- The files of a call (document 02, request 2): the lengths' is looked at before the table's.
use Rattle.std.specs.Prelude.{ℕ, ◌-◌, List, take, drop, Result}
use Rattle.table_checks.specs.declared.Refusal.{Refusal}
use Rattle.table_checks.specs.Refusal.{Returned, check_returns}
use Rattle.table_checks.specs.Checks.{first, file_size_check}
use Rattle.table_checks.specs.Returns.{first_returned, file_size_returns}
use Rattle.frame_table.specs.Table.{read_check}
use Rattle.lengths_file.specs.Lengths.{lengths_file_check, lengths_file_returns}

-- 13, 14, then the checks on files of tables
unfoldable pub input_check : List ℕ → List ℕ → Result (Unit {0}) Refusal
input_check lengths file = first (lengths_file_check lengths) (read_check file)

-- the same in numbers
unfoldable pub input_returns : List ℕ → List ℕ → Returned
input_returns lengths file = first_returned (lengths_file_returns lengths) (check_returns (read_check file))

-- the two files in one input: the first 92 bytes, and the rest
abbrev pub lengths_part : List ℕ → List ℕ
lengths_part input = take 92 input

abbrev pub table_part : List ℕ → List ℕ
table_part input = drop 92 input

-- an input of so many bytes whose table is too long, of which the start is held
unfoldable pub size_check : List ℕ → ℕ → Result (Unit {0}) Refusal
size_check start size = first (lengths_file_check (lengths_part start)) (file_size_check (size - 92))

unfoldable pub size_returns : List ℕ → ℕ → Returned
size_returns start size = first_returned (lengths_file_returns (lengths_part start)) (file_size_returns (size - 92))
