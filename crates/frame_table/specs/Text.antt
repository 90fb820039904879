-- The text form of a table (document 01, "The table"): lines of columns and a line feed.
-- Field k of a table is column k % columns of line k / columns.
use Rattle.std.specs.Prelude.{ℕ, zero, suc, ◌+◌, ◌*◌, ◌/◌, ◌%◌, Bool, cond, not, ◌&&◌, List, [], ◌∷◌, ◌++◌, length, get_or, take, drop, eqb, Option, Some, None}
use Rattle.decimal.specs.Decimal.{read_column, write_column}
use Rattle.table_checks.specs.Columns.{width_of, start_of, columns, feed_at, line_length}
use Rattle.table_checks.specs.Checks.{malformed, unterminated}

-- ---- from a file

unfoldable pub field_of : Option ℕ → ℕ
field_of (Some n) = n
field_of None = malformed

-- the characters of column j of line i
unfoldable pub column_at : List ℕ → ℕ → ℕ → List ℕ
column_at file i j = take (width_of j) (drop (line_length * i + start_of j) file)

-- whether line i ends in a line feed
unfoldable pub terminated : List ℕ → ℕ → Bool
terminated file i = eqb (get_or file (line_length * i + feed_at) 0) 10

-- field j of line i
unfoldable pub field_at : List ℕ → ℕ → ℕ → ℕ
field_at file i j = cond (eqb j 0 && not (terminated file i)) unterminated (field_of (read_column (column_at file i j)))

-- n fields from field k on
abbrev pub fields_from : List ℕ → ℕ → ℕ → List ℕ
fields_from file zero k = []
fields_from file (suc n) k = field_at file (k / columns) (k % columns) ∷ fields_from file n (k + 1)

-- all fields
unfoldable pub fields_of : List ℕ → List ℕ
fields_of file = fields_from file (columns * (length file / line_length)) 0

-- ---- to a file

-- n columns from column j on, the first of which is field k, and a line feed
unfoldable pub columns_from : List ℕ → ℕ → ℕ → ℕ → List ℕ
columns_from rows zero k j = 10 ∷ []
columns_from rows (suc n) k j = write_column (width_of j) (get_or rows k 0) ++ columns_from rows n (k + 1) (j + 1)

-- line i
unfoldable pub line_of : List ℕ → ℕ → List ℕ
line_of rows i = columns_from rows columns (columns * i) 0

-- n lines from line i on
abbrev pub lines_from : List ℕ → ℕ → ℕ → List ℕ
lines_from rows zero i = []
lines_from rows (suc n) i = line_of rows i ++ lines_from rows n (i + 1)

-- the file of a table
unfoldable pub text_of : List ℕ → List ℕ
text_of rows = lines_from rows (length rows / columns) 0
