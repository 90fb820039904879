-- The listing of a table: a line a row, in table order, or the line of a refusal (document 01, "The listing"); ls are the lengths that were
-- loaded (document 02, request 2), and the premise about faults is `Never` but in request 9.
use Rattle.std.specs.Prelude.{ℕ, zero, suc, ◌+◌, ◌/◌, List, [], ◌∷◌, ◌++◌, length}
use Rattle.decimal.specs.Decimal.{write_column, write_signed}
use Rattle.bus_model.specs.declared.Judgement.{Judgement}
use Rattle.bus_model.specs.Frame.{row}
use Rattle.bus_model.specs.Judgement.{verdict, judge}
use Rattle.bus_model.specs.declared.Faults.{Faults}
use Rattle.table_checks.specs.Columns.{field, columns, identifier_column}
use Rattle.table_checks.specs.Frames.{frames_of}
use Rattle.row_judgement.specs.Judge.{claim_of}

-- identifier (10), verdict (3), bound (8), margin (9), and a line feed
unfoldable pub listing_line : ℕ → Judgement → List ℕ
listing_line identifier j =
    write_column 10 identifier ++ (write_column 3 (verdict j.outcome) ++ (write_column 8 j.bound ++ (write_signed 9 j.margin ++ (10 ∷ []))))

-- the line of row i, judged under a premise about faults
unfoldable pub line_of : Faults → List (List ℕ) → List ℕ → ℕ → List ℕ
line_of faults ls rows i = listing_line (field rows i identifier_column) (judge faults (frames_of ls rows) (row (frames_of ls rows) i) (claim_of rows i))

-- n lines from row i on
abbrev pub lines_from : Faults → List (List ℕ) → List ℕ → ℕ → ℕ → List ℕ
lines_from faults ls rows zero i = []
lines_from faults ls rows (suc n) i = line_of faults ls rows i ++ lines_from faults ls rows n (i + 1)

-- all lines
unfoldable pub listing_of : Faults → List (List ℕ) → List ℕ → List ℕ
listing_of faults ls rows = lines_from faults ls rows (length rows / columns) 0

-- of a refused table: number (3), place (6), and a line feed
unfoldable pub refusal_line : ℕ → ℕ → List ℕ
refusal_line number place = write_column 3 number ++ (write_column 6 place ++ (10 ∷ []))
