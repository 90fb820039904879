-- An input in two parts: its beginning holds the lengths.
use Rattle.std.specs.Prelude.{ℕ, min, ◌-◌, ◌≡◌, List, length, take}
use Rattle.std.proofs.Common.{ap, ◌∙◌, arith}
use Rattle.lengths_file.specs.Input.{lengths_part}
use Rattle.lengths_file.proofs.Laws.Input.{first_part}

pub first-end : (xs : List ℕ) (e : ℕ) → e ≡ min (length xs) 92 → take e xs ≡ lengths_part xs
first-end xs e end = let none : e ≡ e - 0 = omega arith in ap (λ n. take n xs) none ∙ first_part xs e end
