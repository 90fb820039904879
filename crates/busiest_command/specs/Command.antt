-- The command busiest: its width, and what it prints (document 02, request 11).
use Rattle.std.specs.Prelude.{ℕ, cond, List, eqb, Option, Result, Ok}
use Rattle.table_checks.specs.declared.Refusal.{Refusal}
use Rattle.decimal.specs.Decimal.{read_column}
use Rattle.frame_table.specs.Text.{fields_of}
use Rattle.frame_table.specs.Table.{Answered as Returned, answer_for, area_after}
use Rattle.log_check.specs.Check.{lines_of}
use Rattle.log_load.specs.Sheet.{sheet_of}
use Rattle.log_load.specs.Returns.{file_returns}
use Rattle.certifier.specs.Listing.{refusal_line}
use Rattle.certifier.specs.Reply.{reply_to, area_to}

-- the sheet, or number and place of a refusal
unfoldable pub text_of : Returned → List ℕ → List ℕ
text_of r sheet = cond (eqb r.number 0) sheet (refusal_line r.number r.place)

-- the text for a width w, in an area that holds `old`
unfoldable pub text_for : List ℕ → List ℕ → List ℕ → ℕ → List ℕ → List ℕ
text_for lengths table log w old = text_of (file_returns lengths table log w old) (sheet_of (fields_of table) (lines_of log) w)

-- the width is the argument
abbrev pub reply_for : List ℕ → List ℕ → List ℕ → List ℕ → List ℕ → Option (Result ℕ Refusal)
reply_for lengths table log width old = reply_to (read_column width) (λ w. answer_for (Ok tt) (text_for lengths table log w old) old)

-- the area afterwards
abbrev pub area_left : List ℕ → List ℕ → List ℕ → List ℕ → List ℕ → List ℕ
area_left lengths table log width old =
    area_to (read_column width) (λ w. area_after (answer_for (Ok tt) (text_for lengths table log w old) old) (text_for lengths table log w old) old) old
