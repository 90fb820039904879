-- The command explain: its row, and what it prints (document 02, request 4: "the alignment of each node from 1 to 16 .. and the number q of
-- the instance").
use Rattle.std.specs.Prelude.{ℕ, cond, List, [], ◌∷◌, ◌++◌, ltb, Option, Some, None, Result, Ok, Err}
use Rattle.table_checks.specs.declared.Refusal.{Refusal}
use Rattle.bus_model.specs.declared.Case.{Case}
use Rattle.decimal.specs.Decimal.{read_column, write_column}
use Rattle.decimal.specs.Numbered.{numbered_lines}
use Rattle.table_checks.specs.Columns.{field, identifier_column}
use Rattle.frame_table.specs.Text.{fields_of}
use Rattle.frame_table.specs.Table.{answer_for, area_after}
use Rattle.row_judgement.specs.declared.Explained.{Explained}
use Rattle.row_judgement.specs.Refusal.{number_of}
use Rattle.certifier.specs.Listing.{listing_line, refusal_line}
use Rattle.certifier.specs.ExplainEntry.{explain_file}
use Rattle.certifier.specs.Reply.{reply_to, area_to}

-- the instance (3), in 8 characters where it has more than three digits, and a line feed
unfoldable pub instance_width : ℕ → ℕ
instance_width q = cond (ltb q 1000) 3 8

unfoldable pub instance_line : ℕ → List ℕ
instance_line q = write_column (instance_width q) q ++ (10 ∷ [])

-- the lines of a case: group (3) and alignment (8) for each of the sixteen groups, and the instance
unfoldable pub case_text : Option Case → List ℕ
case_text (Some c) = numbered_lines 8 c.alignments 16 0 ++ instance_line c.instance
case_text None = []

-- the row's line of the listing and its case, or number and place of a refusal
unfoldable pub text_of : ℕ → Explained → List ℕ
text_of identifier e = elim e.judged [
  | Ok j ↦ listing_line identifier j ++ case_text e.breaking
  | Err f ↦ refusal_line (number_of f.cause) f.place
]

-- the text for row r, from 0
unfoldable pub text_for : List ℕ → List ℕ → ℕ → List ℕ
text_for lengths table r = text_of (field (fields_of table) r identifier_column) (explain_file lengths table r)

-- the row is the argument
abbrev pub reply_for : List ℕ → List ℕ → List ℕ → List ℕ → Option (Result ℕ Refusal)
reply_for lengths table row old = reply_to (read_column row) (λ r. answer_for (Ok tt) (text_for lengths table r) old)

-- the area afterwards
abbrev pub area_left : List ℕ → List ℕ → List ℕ → List ℕ → List ℕ
area_left lengths table row old = area_to (read_column row) (λ r. area_after (answer_for (Ok tt) (text_for lengths table r) old) (text_for lengths table r) old) old
