-- `table_checks::hyperperiod` meets its contract: it is found on a copy of the rows, and the limit of accepted tables cuts nothing off.
use Prim.Native.Nat.{ℕ}
use mathlib.Core.Path.{◌≡◌, ap, ◌∙◌}
use mathlib.Core.List.{List, []}
use native.Mathlib.Omega.{arith}
use borrow.Author.Rules.{rules}
use lib.ListN.{length, take, length-take}
use lib.Seq.{take-append_seam}
use Rattle.bus_model.specs.Theory.Hyperperiod.{hyper_of}
use Rattle.table_checks.specs.Frames.{unmeasured}
use Rattle.table_checks.proofs.Laws.Accepted.{accepted-size, accepted-periods, accepted-pattern}
use Rattle.table_checks.proofs.hyperperiod.Goals as goal
use Rattle.table_checks.proofs.hyperperiod.Goals.{After-fields-3-1}

pub widen-requires : goal.widen-requires
widen-requires c = (accepted-size _ c.requires.accepted).most

-- the copy is the rows
copied : (c : After-fields-3-1) → take (length c.args.rows.now) c.widen.new.fields ≡ c.args.rows.now
copied c =
    let rows : List ℕ = c.args.rows.now in
    ap (take (length rows)) c.widen.ensures ∙ take-append_seam rows _

pub slice_bounds-fields-end : goal.slice_bounds-fields-end
slice_bounds-fields-end c = let fits = (accepted-size _ c.requires.accepted).most in search rules

pub slice_bounds-bounded_hyperperiod-end : goal.slice_bounds-bounded_hyperperiod-end
slice_bounds-bounded_hyperperiod-end c = let fits = (accepted-size _ c.requires.accepted).most in simp length-take (omega arith)

pub bounded_hyperperiod-requires : goal.bounded_hyperperiod-requires
bounded_hyperperiod-requires c = rw (copied c) (accepted-periods _ c.requires.accepted)

pub returns : goal.returns
returns c =
    let group : ℕ = c.args.group in
    let whole = (accepted-pattern _ c.requires.accepted [] group c.requires.le_group.0 c.requires.le_group.1).0 in
    omega (arith, c.bounded_hyperperiod.ensures, ap (λ (t : List ℕ). hyper_of group (unmeasured t)) (copied (goal.at.returns c).After-fields-3-1))
