-- By what the check of a table answers: the numbers of one that passed have 32 bits.
use Rattle.std.specs.Prelude.{ℕ, ◌%◌, ◌^◌, ◌<◌, ◌≡◌, List, length, get_or, Result, Ok, Err}
use Rattle.std.proofs.Common.{sym}
use Rattle.table_checks.specs.declared.Refusal.{Refusal}
use Rattle.table_checks.specs.Columns.{columns}
use Rattle.table_checks.specs.Checks.{table_check}
use Rattle.frame_table.specs.Laws.Storable.{storable as passed-storable}

-- the fields of a table that passed are 32-bit numbers
abbrev pub Storable : Result (Unit {0}) Refusal → List ℕ → Type 0
Storable (Ok _) fields = (k : ℕ) → k < length fields → get_or fields k 0 < 2 ^ 32
Storable (Err r) fields = Unit {0}

pub storable : (t : List ℕ) → length t % columns ≡ 0 → (c : Result (Unit {0}) Refusal) → c ≡ table_check t → Storable c t
storable t whole (Ok tt) e = passed-storable t whole (sym e)
storable t whole (Err r) e = tt
