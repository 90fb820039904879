-- The numbers of a table that passed have 32 bits.
use Rattle.std.specs.Prelude.{ℕ, ◌+◌, ◌*◌, ◌/◌, ◌%◌, ◌^◌, ◌<◌, ◌≡◌, List, length, get_or, Ok}
use Rattle.std.proofs.Common.{arith}
use Rattle.table_checks.specs.Columns.{columns}
use Rattle.table_checks.specs.Checks.{table_check}
use Rattle.table_checks.proofs.Laws.First.{first-passed}
use Rattle.table_checks.proofs.Laws.Limits.{field-small, lines-each}

pub storable : (t : List ℕ) → length t % columns ≡ 0 → table_check t ≡ Ok tt → (k : ℕ) → k < length t → get_or t k 0 < 2 ^ 32
unfolding table_check
storable t whole e k l =
    let m = lines-each t (first-passed _ _ e).0 (k / columns) (omega arith) in
    let z : columns * (k / columns) + k % columns ≡ k = omega arith in
    rw z at (field-small t (k / columns) m (k % columns) (omega arith))
