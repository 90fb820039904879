-- `certifier::log_entry::store_starts` meets its contract: in a shorter area nothing is stored.
use Prim.Native.Nat.{ℕ}
use mathlib.Core.List.{List, ◌++◌}
use mathlib.Core.Path.{ap, ◌∙◌}
use lib.ListN.{drop}
use Rattle.certifier.proofs.Laws.LogEntry.{stored_short, stored-all}
use Rattle.certifier.proofs.log_entry.store_starts.Goals as goal

pub returns-then-area-lt-GROUPS : goal.returns-then-area-lt-GROUPS
returns-then-area-lt-GROUPS c = let answer = stored_short c.args.starts.now c.args.area.now c.requires c.if-area-lt-GROUPS.true in record { value = answer.0; area_after = answer.1 }

pub returns : goal.returns
returns c =
    let (a, b) = stored-all c.args.starts.now c.args.area.now c.requires c.if-area-lt-GROUPS.false in
    let whole = rw c.requires at b in
    record { value = a; area_after = ap (λ (xs : List ℕ). xs ++ drop 16 c.args.area.now) c.copy_from_slice.ensures.after ∙ whole }
