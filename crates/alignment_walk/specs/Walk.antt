-- The walk along a group's alignments: which instants it visits. That these are the group's, each once, is in Laws/Walk.
use Rattle.std.specs.Prelude.{ℕ, zero, suc, ◌+◌, ◌-◌, ◌<◌, Option, Some, None}
use mathlib.Core.List.{List, [], ◌∷◌, Memᴰ as Mem}
use Rattle.arith.specs.Least.{least}
use Rattle.bus_model.specs.declared.Frame.{Frame}
use Rattle.workload.specs.Prepared.{is_instant}

-- one step: the first instant at tick a or later, below the end, at which one of the frames is released (`next_alignment` answers it, and
-- `visit` how long after the alignment at hand it is)
abbrev pub step : List Frame → ℕ → ℕ → Option ℕ
step gs end a = least (is_instant gs) (end - a) a

-- the instant that a step finds, and those after it; none where it finds none
unfoldable pub on_from : Option ℕ → (ℕ → List ℕ) → List ℕ
on_from (Some b) after = b ∷ after b
on_from None after = []

-- the instants that are visited from tick a on: each step starts at the tick after the last instant, until one answers none; n steps at the most
unfoldable pub visits_from : ℕ → List Frame → ℕ → ℕ → List ℕ
visits_from zero gs end a = []
visits_from (suc n) gs end a = on_from (step gs end a) (λ b. visits_from n gs end (b + 1))

-- those of the whole walk, which needs no more steps than there are ticks (`visits-enough`)
abbrev pub visits : List Frame → ℕ → List ℕ
visits gs end = visits_from end gs end 0

-- each number is below all after it, so that none comes twice
abbrev pub Rising : List ℕ → Type 0
Rising [] = Unit {0}
Rising (x ∷ xs) = ((y : ℕ) → Mem y xs → x < y) × Rising xs
