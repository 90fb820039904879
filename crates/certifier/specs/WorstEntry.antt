-- The tool's call that shows the last frame's worst case (document 02, request 14).
use Rattle.std.specs.Prelude.{ℕ, List, [], ◌∷◌, ◌++◌, cond, ltb, ℤ, pos, neg_ℤ, length, drop, Some, None, Result, Ok, Err}
use Rattle.table_checks.specs.declared.Refusal.{Refusal as TableRefusal}
use Rattle.frame_table.specs.Text.{fields_of}
use Rattle.lengths_file.specs.Lengths.{lengths_of}
use Rattle.lengths_file.specs.Input.{input_check}
use Rattle.row_judgement.specs.declared.Refusal.{Refusal}
use Rattle.row_judgement.specs.Refusal.{of_table}
use Rattle.worst_case.specs.declared.LastFrame.{LastFrame}
use Rattle.worst_case.specs.Answer.{worst_of}
use Rattle.certifier.specs.Encode.{encode_judged}

-- a refusal shows nothing
abbrev pub last_refused : Refusal → LastFrame
last_refused f = record { judged = Err f; worst = None }

-- lengths and table as bytes: the checks on files, then what is found of the last frame
unfoldable pub worst_read : Result (Unit {0}) TableRefusal → List (List ℕ) → List ℕ → LastFrame
worst_read (Err f) ls file = last_refused (of_table f)
worst_read (Ok _) ls file = worst_of ls (fields_of file)

unfoldable pub worst_file : List ℕ → List ℕ → LastFrame
worst_file lengths file = worst_read (input_check lengths file) (lengths_of lengths) file

-- the judge's number; 8, last, where a worst case is shown and there is no room for its 18 numbers
unfoldable pub encode_worst : LastFrame → ℕ → ℤ
encode_worst l room = elim l.worst [
  | Some w ↦ cond (ltb room 18) (neg_ℤ (pos 80000)) (encode_judged l.judged)
  | None ↦ encode_judged l.judged
]

-- the area after the call: where a worst case is shown, and room, the starts of groups 1 to 16, then the instance, then its response stand
-- at its start
unfoldable pub worst_after : LastFrame → List ℕ → List ℕ
worst_after l area = elim l.worst [
  | Some w ↦ cond (ltb (length area) 18) area (((w.starts ++ (w.instance ∷ [])) ++ (w.response ∷ [])) ++ drop 18 area)
  | None ↦ area
]
