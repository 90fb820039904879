-- The sheet of a log (document 02, request 11): the busiest stretch, and then a line for each row of the table.
use Rattle.std.specs.Prelude.{ℕ, zero, suc, ◌+◌, ◌-◌, ◌/◌, List, [], ◌∷◌, ◌++◌, length}
use Rattle.arith.specs.Lists.{sum, greatest, keep}
use Rattle.decimal.specs.Decimal.{write_column}
use Rattle.table_checks.specs.Columns.{field, columns, identifier_column}
use Rattle.bus_log.specs.declared.Line.{Line}
use Rattle.bus_log.specs.Log.{is_named}
use Rattle.log_load.specs.declared.Seen.{Seen}
use Rattle.log_load.specs.Busy.{most_busy, first_busiest}

-- ---- the rows

-- "Response time is the end minus the queueing"
abbrev pub response : Line → ℕ
response l = l.start + l.length - l.release

-- the lines of row i, by identifier and kind
unfoldable pub of_row : List ℕ → ℕ → List Line → List Line
of_row rows i log = keep (λ l. is_named rows l i) log

-- "instances seen, greatest response seen, sum of responses"
unfoldable pub seen_of : List ℕ → ℕ → List Line → Seen
seen_of rows i log =
    record {
      count = length (of_row rows i log);
      most = greatest response (of_row rows i log);
      total = sum response (of_row rows i log);
    }

-- ---- the text

-- "That number and the stretch's first tick stand on a first line, each 11 wide"
unfoldable pub first_line : ℕ → ℕ → List ℕ
first_line count first = write_column 11 count ++ (write_column 11 first ++ (10 ∷ []))

-- "identifier, instances seen, greatest response seen, sum of responses, 10, 5, 11 and 15 wide"
unfoldable pub row_line : ℕ → Seen → List ℕ
row_line identifier s =
    write_column 10 identifier ++ (write_column 5 s.count ++ (write_column 11 s.most ++ (write_column 15 s.total ++ (10 ∷ []))))

-- the line of row i
unfoldable pub line_of : List ℕ → List Line → ℕ → List ℕ
line_of rows log i = row_line (field rows i identifier_column) (seen_of rows i log)

-- n lines from row i on
abbrev pub lines_from : List ℕ → List Line → ℕ → ℕ → List ℕ
lines_from rows log zero i = []
lines_from rows log (suc n) i = line_of rows log i ++ lines_from rows log n (i + 1)

-- the whole
unfoldable pub sheet_of : List ℕ → List Line → ℕ → List ℕ
sheet_of rows log w = first_line (most_busy log w) (first_busiest log w) ++ lines_from rows log (length rows / columns) 0
