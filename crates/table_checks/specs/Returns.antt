-- What the checks return, in numbers (document 01, "Where a call is turned back"): number and place, 0 and 0 where none fails.
use Rattle.std.specs.Prelude.{ℕ, ◌/◌, ◌%◌, cond, not, ◌||◌, List, length, ltb, eqb}
use Rattle.table_checks.specs.Columns.{columns, most_lines, most_numbers, line_length}
use Rattle.table_checks.specs.Frames.{unmeasured}
use Rattle.table_checks.specs.Refusal.{Returned, returned, check_returns}
use Rattle.table_checks.specs.Checks.{breaks_limits, lines_check, groups_check}

-- the first of two that fails
abbrev pub first_returned : Returned → Returned → Returned
first_returned a b = cond (eqb a.number 0) b a

-- lengths: 14, place the line
unfoldable pub lengths_returns : List (List ℕ) → Returned
lengths_returns ls = cond (breaks_limits ls 0) (returned 14 1) (cond (breaks_limits ls 1) (returned 14 2) (returned 0 0))

-- a file's length: 1, then 2
unfoldable pub file_size_returns : ℕ → Returned
file_size_returns size =
    cond (eqb size 0 || not (eqb (size % line_length) 0)) (returned 1 0) (cond (ltb most_lines (size / line_length)) (returned 2 0) (returned 0 0))

-- the number of numbers in memory: 10
unfoldable pub rows_size_returns : ℕ → Returned
rows_size_returns size = cond (eqb size 0 || (not (eqb (size % columns) 0) || ltb most_numbers size)) (returned 10 0) (returned 0 0)

-- rows in memory: their size, then line by line, then the groups
unfoldable pub rows_returns : List ℕ → Returned
rows_returns rows =
    first_returned (rows_size_returns (length rows)) (first_returned (check_returns (lines_check rows)) (check_returns (groups_check (unmeasured rows))))

-- lengths and rows: the lengths first
unfoldable pub loaded_returns : List (List ℕ) → List ℕ → Returned
loaded_returns ls rows = first_returned (lengths_returns ls) (rows_returns rows)
