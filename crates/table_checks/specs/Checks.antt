-- The checks on lengths and tables and their order (document 01, "Where a call is turned back"; document 02, requests 2 and 6).
-- A table is given by its fields: those of a file as frame_table's Text.antt has them, or the numbers in memory.
use Rattle.std.specs.Prelude.{ℕ, zero, suc, ◌+◌, ◌-◌, ◌/◌, ◌%◌, Bool, cond, not, ◌&&◌, ◌||◌, List, ◌≡◌, length, ltb, eqb, Result, Ok, Err}
use Rattle.table_checks.specs.declared.Refusal.{Refusal}
use Rattle.arith.specs.Lists.{exists, range}
use Rattle.bus_model.specs.declared.Frame.{Frame}
use Rattle.bus_model.specs.Pattern.{of_group, hyperperiod, pattern_releases}
use Rattle.table_checks.specs.declared.Cause.TheVariants.{FileForm, TooManyLines, Notation, Limit, Duplicate, Hyperperiod, Releases, RowsLength, Length, SecondGroup}
use Rattle.table_checks.specs.Columns.{field, is_length, within, columns, node_column, group_column, identifier_column, kind_column, most_lines, most_numbers, line_length}
use Rattle.table_checks.specs.Frames.{length_at, unmeasured}
use Rattle.table_checks.specs.Refusal.{failed}

-- ---- the first check that fails

-- of two
abbrev pub first : Result (Unit {0}) Refusal → Result (Unit {0}) Refusal → Result (Unit {0}) Refusal
first (Ok _) next = next
first (Err r) next = Err r

-- of the checks number n, n + 1, .., n + m - 1
unfoldable pub first_of : (ℕ → Result (Unit {0}) Refusal) → ℕ → ℕ → Result (Unit {0}) Refusal
first_of check zero n = Ok tt
first_of check (suc m) n = first (check n) (first_of check m (n + 1))

-- ---- lengths: before all else

-- whether number s of line k, which count from 0, is outside its limits, or smaller than the one before it on its line
unfoldable pub is_outside : List (List ℕ) → ℕ → ℕ → Bool
is_outside ls k s = not (is_length (length_at ls k (s - 1)) (length_at ls k s))

-- whether some number of line k is
unfoldable pub breaks_limits : List (List ℕ) → ℕ → Bool
breaks_limits ls k = exists (is_outside ls k) (range 0 9)

-- 14, place the line
unfoldable pub lengths_check : List (List ℕ) → Result (Unit {0}) Refusal
lengths_check ls = cond (breaks_limits ls 0) (failed Length 1) (cond (breaks_limits ls 1) (failed Length 2) (Ok tt))

-- no check turns the lengths back
abbrev pub Loadable : List (List ℕ) → Type 0
Loadable ls = lengths_check ls ≡ Ok tt

-- ---- sizes

-- a file's length: 1, then 2
unfoldable pub file_size_check : ℕ → Result (Unit {0}) Refusal
file_size_check size =
    cond (eqb size 0 || not (eqb (size % line_length) 0)) (failed FileForm 0)
    (cond (ltb most_lines (size / line_length)) (failed TooManyLines 0) (Ok tt))

-- the number of numbers in memory: 10
unfoldable pub rows_size_check : ℕ → Result (Unit {0}) Refusal
rows_size_check size = cond (eqb size 0 || (not (eqb (size % columns) 0) || ltb most_numbers size)) (failed RowsLength 0) (Ok tt)

-- ---- a line

-- in a file a field is a number, or one of two marks above all numbers: the column breaks the notation,
-- or, at the first field of a line, the line does not end in a line feed
abbrev pub malformed : ℕ
malformed = 1_000_000_000_000_000_000

abbrev pub unterminated : ℕ
unterminated = 1_000_000_000_000_000_001

-- column j of line i, which counts from 0: 1, 3, 4
unfoldable pub column_check : List ℕ → ℕ → ℕ → Result (Unit {0}) Refusal
column_check t i j =
    cond (eqb (field t i j) unterminated) (failed FileForm (i + 1))
    (cond (eqb (field t i j) malformed) (failed Notation (i + 1))
    (cond (within j (field t i (j - 1)) (field t i j)) (Ok tt) (failed Limit (i + 1))))

unfoldable pub columns_check : List ℕ → ℕ → Result (Unit {0}) Refusal
columns_check t i = first_of (column_check t i) columns 0

-- whether the identifier and kind of line i stand on line m
unfoldable pub is_same_frame : List ℕ → ℕ → ℕ → Bool
is_same_frame t i m = eqb (field t m identifier_column) (field t i identifier_column) && eqb (field t m kind_column) (field t i kind_column)

-- whether they stand on an earlier line
unfoldable pub stands_earlier : List ℕ → ℕ → Bool
stands_earlier t i = exists (is_same_frame t i) (range 0 i)

-- whether the node of line i stands in another group on line m
unfoldable pub is_other_group : List ℕ → ℕ → ℕ → Bool
is_other_group t i m = eqb (field t m node_column) (field t i node_column) && not (eqb (field t m group_column) (field t i group_column))

-- whether it does on an earlier line
unfoldable pub has_second_group : List ℕ → ℕ → Bool
has_second_group t i = exists (is_other_group t i) (range 0 i)

-- line i: its columns, then 5, then 15
unfoldable pub line_check : List ℕ → ℕ → Result (Unit {0}) Refusal
line_check t i =
    first (columns_check t i)
    (cond (stands_earlier t i) (failed Duplicate (i + 1))
    (cond (has_second_group t i) (failed SecondGroup (i + 1)) (Ok tt)))

unfoldable pub lines_check : List ℕ → Result (Unit {0}) Refusal
lines_check t = first_of (line_check t) (length t / columns) 0

-- ---- a group

-- "Pattern" of group j: 6, then 7
unfoldable pub group_check : List Frame → ℕ → Result (Unit {0}) Refusal
group_check fs j =
    cond (ltb 1_000_000 (hyperperiod (of_group fs j))) (failed Hyperperiod j)
    (cond (ltb 256 (pattern_releases (of_group fs j))) (failed Releases j) (Ok tt))

-- the groups, rising
unfoldable pub groups_check : List Frame → Result (Unit {0}) Refusal
groups_check fs = first_of (group_check fs) 16 1

-- ---- a table: line by line, then the groups

unfoldable pub table_check : List ℕ → Result (Unit {0}) Refusal
table_check t = first (lines_check t) (groups_check (unmeasured t))

-- ---- rows in memory: their size, then the table

unfoldable pub rows_check : List ℕ → Result (Unit {0}) Refusal
rows_check rows = first (rows_size_check (length rows)) (table_check rows)

-- ---- lengths and rows: the lengths first

unfoldable pub loaded_check : List (List ℕ) → List ℕ → Result (Unit {0}) Refusal
loaded_check ls rows = first (lengths_check ls) (rows_check rows)

-- "accepted": no check on tables turns the rows back
abbrev pub Accepted : List ℕ → Type 0
Accepted rows = rows_check rows ≡ Ok tt
