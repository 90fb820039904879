-- The load sheet of a table (document 02, request 1): a line for each node that has frames, and a last line. A load is a node's, and its
-- divisor is the hyperperiod of the node's group (request 6).
use Rattle.std.specs.Prelude.{ℕ, ◌/◌, Bool, List, [], ◌∷◌, ◌++◌, map, eqb, length, get_or}
use Rattle.arith.specs.Lists.{greatest, keep, exists, range}
use Rattle.decimal.specs.Decimal.{write_column}
use Rattle.bus_model.specs.declared.Frame.{Frame}
use Rattle.bus_model.specs.Pattern.{of_group, hyperperiod}
use Rattle.table_checks.specs.Columns.{field, columns, node_column, group_column}
use Rattle.table_checks.specs.Frames.{frame_at, frames_of}
use Rattle.load_sheet.specs.declared.Load.{Load}
use Rattle.load_sheet.specs.Load.{load_of}

-- ---- nodes

-- whether row i is one of node j
unfoldable pub is_of : List ℕ → ℕ → ℕ → Bool
is_of rows j i = eqb (field rows i node_column) j

-- whether node j has frames
unfoldable pub has_frames : List ℕ → ℕ → Bool
has_frames rows j = exists (is_of rows j) (range 0 (length rows / columns))

-- the nodes that have frames, rising
unfoldable pub nodes_of : List ℕ → List ℕ
nodes_of rows = keep (has_frames rows) (range 1 16)

-- the rows of node j, and its frames
unfoldable pub rows_of : List ℕ → ℕ → List ℕ
rows_of rows j = keep (is_of rows j) (range 0 (length rows / columns))

unfoldable pub node_frames : List (List ℕ) → List ℕ → ℕ → List Frame
node_frames ls rows j = map (frame_at ls rows) (rows_of rows j)

-- the group in which node j stands: that of its first row, which is that of all; 0 where it has none
unfoldable pub group_of : List ℕ → ℕ → ℕ
group_of rows j = get_or (map (λ i. field rows i group_column) (rows_of rows j)) 0 0

-- the load of node j, by the lengths ls that were loaded (request 2)
unfoldable pub node_load : List (List ℕ) → List ℕ → ℕ → Load
node_load ls rows j = load_of (hyperperiod (of_group (frames_of ls rows) (group_of rows j))) (node_frames ls rows j)

-- ---- lines

-- node (3), quotient (10), remainder (8), divisor (8), and a line feed
unfoldable pub node_line : ℕ → Load → List ℕ
node_line j l = write_column 3 j ++ (write_column 10 l.quotient ++ (write_column 8 l.remainder ++ (write_column 8 l.divisor ++ (10 ∷ []))))

-- the lines of some nodes, by their loads
unfoldable pub lines_of : (ℕ → Load) → List ℕ → List ℕ
lines_of load [] = []
lines_of load (j ∷ js) = node_line j (load j) ++ lines_of load js

-- how many nodes (3), their greatest quotient (10), and a line feed
unfoldable pub last_line : ℕ → ℕ → List ℕ
last_line count most = write_column 3 count ++ (write_column 10 most ++ (10 ∷ []))

-- the greatest quotient of some nodes
unfoldable pub greatest_quotient : (ℕ → Load) → List ℕ → ℕ
greatest_quotient load js = greatest (λ j. (load j).quotient) js

-- ---- the sheet

-- of some nodes
unfoldable pub sheet_with : (ℕ → Load) → List ℕ → List ℕ
sheet_with load js = lines_of load js ++ last_line (length js) (greatest_quotient load js)

-- of a table
unfoldable pub sheet_of : List (List ℕ) → List ℕ → List ℕ
sheet_of ls rows = sheet_with (node_load ls rows) (nodes_of rows)
