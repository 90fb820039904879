-- Lines that number values from 1.
use Rattle.std.specs.Prelude.{ℕ, zero, suc, ◌+◌, List, [], ◌∷◌, ◌++◌, get_or}
use Rattle.decimal.specs.Decimal.{write_column}

-- number (3) and value (w), and a line feed
unfoldable pub numbered_line : ℕ → ℕ → ℕ → List ℕ
numbered_line w number value = write_column 3 number ++ (write_column w value ++ (10 ∷ []))

-- the line of the value at place i, from 0
unfoldable pub numbered_at : ℕ → List ℕ → ℕ → List ℕ
numbered_at w values i = numbered_line w (i + 1) (get_or values i 0)

-- n lines from place i on
abbrev pub numbered_lines : ℕ → List ℕ → ℕ → ℕ → List ℕ
numbered_lines w values zero i = []
numbered_lines w values (suc n) i = numbered_at w values i ++ numbered_lines w values n (i + 1)
