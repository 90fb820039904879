-- What one step of the code hands to the next.
use Rattle.bus_model.specs.declared.Judgement.{Judgement}
use Rattle.row_judgement.specs.declared.Refusal.{Refusal}
use Rattle.std.specs.Prelude.{ℕ, ◌^◌, ◌≤◌, ◌<◌, ◌≡◌, pos, ◌+ℤ◌, Result, Ok, Err}

-- bound and margin are small enough for one number: the margin and a million are a number up to two million
abbrev pub Encodable : Result Judgement Refusal → Type 0
Encodable (Ok j) = (j.bound ≤ 1000000) × ((n : ℕ) × (pos 1000000 +ℤ j.margin ≡ pos n) × (n ≤ 2000000))
Encodable (Err f) = Unit {0}

-- what was written is few enough for a signed number, whatever refuses
abbrev pub Countable : {E : Type 0} → Result ℕ E → Type 0
Countable (Ok n) = n < 2 ^ 63
Countable (Err f) = Unit {0}
