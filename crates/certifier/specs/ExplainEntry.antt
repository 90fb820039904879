-- The tool's call that shows the case that breaks a claim (document 02, request 4).
use Rattle.std.specs.Prelude.{ℕ, List, [], ◌∷◌, ◌++◌, cond, ltb, ℤ, pos, neg_ℤ, length, drop, Some, None, Result, Ok, Err}
use Rattle.table_checks.specs.declared.Refusal.{Refusal as TableRefusal}
use Rattle.frame_table.specs.Text.{fields_of}
use Rattle.lengths_file.specs.Lengths.{lengths_of}
use Rattle.lengths_file.specs.Input.{input_check}
use Rattle.row_judgement.specs.declared.Refusal.{Refusal}
use Rattle.row_judgement.specs.declared.Explained.{Explained}
use Rattle.row_judgement.specs.Refusal.{of_table}
use Rattle.row_judgement.specs.Explain.{explain_row}
use Rattle.certifier.specs.Encode.{encode_judged}

-- a refusal comes without a case
abbrev pub turned_back : Refusal → Explained
turned_back f = record { judged = Err f; breaking = None }

-- lengths and table as bytes: the checks on files, then what explaining the row answers
unfoldable pub explain_read : Result (Unit {0}) TableRefusal → List (List ℕ) → List ℕ → ℕ → Explained
explain_read (Err f) ls file r = turned_back (of_table f)
explain_read (Ok _) ls file r = explain_row ls (fields_of file) r

unfoldable pub explain_file : List ℕ → List ℕ → ℕ → Explained
explain_file lengths file r = explain_read (input_check lengths file) (lengths_of lengths) file r

-- the judge's number; 8, last, where there is a case and no room for its 17 numbers
unfoldable pub encode_explained : Explained → ℕ → ℤ
encode_explained e room = elim e.breaking [
  | Some c ↦ cond (ltb room 17) (neg_ℤ (pos 80000)) (encode_judged e.judged)
  | None ↦ encode_judged e.judged
]

-- the area after the call: where there is a case, and room, the alignments of groups 1 to 16 and then the instance stand at its start
unfoldable pub shown_after : Explained → List ℕ → List ℕ
shown_after e area = elim e.breaking [
  | Some c ↦ cond (ltb (length area) 17) area ((c.alignments ++ (c.instance ∷ [])) ++ drop 17 area)
  | None ↦ area
]
