-- The log's text: lines of five columns and a line feed (document 02, request 10).
use Rattle.std.specs.Prelude.{ℕ, List, [], ◌∷◌, ◌++◌, map}
use Rattle.decimal.specs.Decimal.{write_column}
use Rattle.bus_model.specs.declared.Frame.{Frame}
use Rattle.table_checks.specs.Columns.{field, identifier_column, kind_column}
use Rattle.bus_log.specs.declared.Line.{Line}
use Rattle.bus_log.specs.declared.Entry.{Entry}
use Rattle.simulator.specs.declared.Engine.{Engine}
use Rattle.simulator.specs.Engine.{entries_from}

-- the line of a transmission: `t` holds the table's numbers
unfoldable pub line_of : List ℕ → Entry → Line
line_of t e =
    record {
      start = e.start;
      identifier = field t e.frame identifier_column;
      kind = field t e.frame kind_column;
      release = e.release;
      length = e.length;
    }

-- start (11), identifier (10), kind (3), queueing (11), length (4), and a line feed
unfoldable pub line_text : Line → List ℕ
line_text l =
    write_column 11 l.start
    ++ (write_column 10 l.identifier ++ (write_column 3 l.kind ++ (write_column 11 l.release ++ (write_column 4 l.length ++ (10 ∷ [])))))

unfoldable pub log_text : List Line → List ℕ
log_text [] = []
log_text (l ∷ ls) = line_text l ++ log_text ls

-- the lines of n steps from step i on
unfoldable pub lines_from : List Frame → List ℕ → Engine → ℕ → ℕ → List Line
lines_from fs t s n i = map (line_of t) (entries_from fs s n i)
