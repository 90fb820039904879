-- What a command of the program comes to, and what it leaves in its area.
use Rattle.std.specs.Prelude.{ℕ, List, Option, Some, None, Result}
use Rattle.table_checks.specs.declared.Refusal.{Refusal}
use Rattle.frame_table.specs.Table.{area_after}

-- what is answered where the argument is a number, in the notation of a table's column
abbrev pub reply_to : Option ℕ → (ℕ → Result ℕ Refusal) → Option (Result ℕ Refusal)
reply_to (Some n) answer = Some (answer n)
reply_to None answer = None

-- the area afterwards
abbrev pub area_to : Option ℕ → (ℕ → List ℕ) → List ℕ → List ℕ
area_to (Some n) area old = area n
area_to None area old = old

-- the area afterwards, where a text is what is answered
abbrev pub area_left : Option (Result ℕ Refusal) → List ℕ → List ℕ → List ℕ
area_left None text old = old
area_left (Some answer) text old = area_after answer text old
