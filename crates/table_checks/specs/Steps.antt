-- What one step of the code hands to the next.
use Rattle.std.specs.Prelude.{ℕ, ◌/◌, ◌≤◌, ◌<◌, List, length}
use Rattle.table_checks.specs.Columns.{field, columns, period_column}

-- the periods are within their limits, as the lines' checks leave them
unfoldable pub Periods : List ℕ → Type 0
Periods t = (i : ℕ) → i < length t / columns → (1 ≤ field t i period_column) × (field t i period_column ≤ 1000000)
