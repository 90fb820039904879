-- Lengths as numbers one after the other: nine of kind 11, then nine of kind 29. Those that are missing are 0.
use Rattle.std.specs.Prelude.{ℕ, ◌+◌, List, [], ◌∷◌, map, get_or}
use Rattle.arith.specs.Lists.{range}

-- nine numbers from a place on
unfoldable pub line_from : List ℕ → ℕ → List ℕ
line_from numbers from = map (λ s. get_or numbers (from + s) 0) (range 0 9)

abbrev pub array_of : List ℕ → List (List ℕ)
array_of numbers = line_from numbers 0 ∷ line_from numbers 9 ∷ []
