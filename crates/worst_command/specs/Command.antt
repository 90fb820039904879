-- What the command worst prints (document 02, request 14: "the group starts" with which "the frame's exact bound" is reached).
use Rattle.std.specs.Prelude.{ℕ, List, [], ◌∷◌, ◌++◌, Option, Some, None}
use Rattle.bus_model.specs.Worst.{last_row}
use Rattle.bus_model.specs.declared.Faults.TheVariants.{Never}
use Rattle.decimal.specs.Decimal.{write_column}
use Rattle.decimal.specs.Numbered.{numbered_lines}
use Rattle.table_checks.specs.Frames.{frames_of}
use Rattle.certifier.specs.Listing.{line_of}
use Rattle.worst_case.specs.declared.WorstCase.{WorstCase}
use Rattle.worst_case.specs.Answer.{worst_row}

-- instance (8) and response (8), and a line feed
unfoldable pub response_line : ℕ → ℕ → List ℕ
response_line instance response = write_column 8 instance ++ (write_column 8 response ++ (10 ∷ []))

-- the lines of a worst case: group (3) and start (8) for each of the sixteen groups, and the instance with its response
unfoldable pub worst_text : Option WorstCase → List ℕ
worst_text (Some w) = numbered_lines 8 w.starts 16 0 ++ response_line w.instance w.response
worst_text None = []

-- the last frame's line of the listing, and its worst case
unfoldable pub text_of : List (List ℕ) → List ℕ → List ℕ
text_of ls rows =
    let fs = frames_of ls rows in
    let r = last_row fs in
    line_of Never ls rows r ++ worst_text (worst_row fs r)
