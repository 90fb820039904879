-- The command faults: its gap, and what it prints (document 02, request 9).
use Rattle.std.specs.Prelude.{ℕ, List, Option, Result, Ok, Err}
use Rattle.table_checks.specs.declared.Refusal.{Refusal as TableRefusal}
use Rattle.decimal.specs.Decimal.{read_column}
use Rattle.frame_table.specs.Table.{answer_for, area_after}
use Rattle.row_judgement.specs.declared.Refusal.{Refusal}
use Rattle.row_judgement.specs.Refusal.{number_of}
use Rattle.certifier.specs.Listing.{refusal_line}
use Rattle.certifier.specs.FaultsListing.{list_faults_file, listed_file}
use Rattle.certifier.specs.Reply.{reply_to, area_to}

-- number and place
abbrev pub line_for : Refusal → List ℕ
line_for f = refusal_line (number_of f.cause) f.place

-- the answer where the listing stands in the area already, or the line of its refusal is to be written there
abbrev pub answer_of : Result ℕ Refusal → List ℕ → Result ℕ TableRefusal
answer_of (Ok n) area = Ok n
answer_of (Err f) area = answer_for (Ok tt) (line_for f) area

-- the area afterwards
abbrev pub area_of : Result ℕ Refusal → List ℕ → List ℕ
area_of (Ok n) area = area
area_of (Err f) area = area_after (answer_for (Ok tt) (line_for f) area) (line_for f) area

-- the gap is the argument
abbrev pub reply_for : List ℕ → List ℕ → List ℕ → List ℕ → Option (Result ℕ TableRefusal)
reply_for lengths table gap old = reply_to (read_column gap) (λ g. answer_of (list_faults_file lengths table g old) (listed_file lengths table g old))

-- the area afterwards
abbrev pub area_left : List ℕ → List ℕ → List ℕ → List ℕ → List ℕ
area_left lengths table gap old = area_to (read_column gap) (λ g. area_of (list_faults_file lengths table g old) (listed_file lengths table g old)) old
