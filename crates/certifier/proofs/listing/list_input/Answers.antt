-- The two parts that are listed are those of the input.
use Prim.Native.Nat.{ℕ}
use mathlib.Core.List.{List}
use Rattle.lengths_file.proofs.Laws.Input.{second-part}
use Rattle.certifier.proofs.Laws.Input.{first-end}
use Rattle.certifier.proofs.listing.list_input.Goals as goal

pub returns : goal.returns
returns c =
    let xs : List ℕ = c.args.input.now in
    let end = c.lengths_end-end.ensures in
    rw (← first-end xs _ end, ← second-part xs _ end) c.list.ensures
