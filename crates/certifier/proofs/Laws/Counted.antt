-- What writing a listing under faults answers is a signed number.
use Rattle.std.specs.Prelude.{ℕ, ◌^◌, ◌<◌, List, Result, Ok, Err}
use Rattle.row_judgement.specs.declared.Refusal.{Refusal}
use Rattle.certifier.specs.FaultsListing.{list_faults_file}
use Rattle.certifier.specs.Steps.{Countable}
use Rattle.certifier.proofs.Laws.Answers.{faults-countable as file-countable}

-- what was written is few enough for one
abbrev pub CountableListing : Result ℕ Refusal → Type 0
CountableListing (Ok n) = n < 2 ^ 63
CountableListing (Err f) = Unit {0}

listing-countable : (a : Result ℕ Refusal) → Countable a → CountableListing a
listing-countable (Ok n) most = most
listing-countable (Err f) most = tt

pub faults-countable : (lengths file : List ℕ) (g : ℕ) (old : List ℕ) → CountableListing (list_faults_file lengths file g old)
faults-countable lengths file g old = listing-countable (list_faults_file lengths file g old) (file-countable lengths file g old)
