-- `table_checks::check` meets its contract: the size is checked first, and then the table on a copy of the rows.
use Prim.Native.Nat.{ℕ, ◌≤◌}
use mathlib.Core.Path.{sym, ap, ◌∙◌}
use mathlib.Core.List.{List}
use native.Mathlib.Omega.{arith}
use borrow.Author.Rules.{rules}
use lib.ListN.{length, take, length-take}
use lib.Seq.{take-append_seam}
use Rattle.table_checks.specs.Columns.{most_numbers}
use Rattle.std.proofs.lemmas.Result.{err_from_is_err_and}
use Rattle.table_checks.specs.Checks.{table_check, rows_check}
use Rattle.table_checks.proofs.Laws.Sizes.{rows-size}
use Rattle.table_checks.proofs.Laws.Returns.{rows_told}
use Rattle.table_checks.proofs.check.Goals as goal
use Rattle.table_checks.proofs.check.Goals.{In_ok-rows_size}

-- rows that passed fit
few : (c : In_ok-rows_size) → length c.args.rows.now ≤ most_numbers
few c = (rows-size _ (sym c.in_ok-rows_size.ensures)).most

pub returns-in_err-rows_size : goal.returns-in_err-rows_size
unfolding rows_check
returns-in_err-rows_size c =
    let answer = rows_told c.args.rows.now (let p = err_from_is_err_and c.from_residual.result c.from_residual.ensures.1 in rw (p.1, p.2, ← c.in_err-rows_size.ensures)) in record { value = answer.0; in_numbers = answer.1 }

pub widen-requires : goal.widen-requires
widen-requires c = few (goal.at.widen-requires c).In_ok-rows_size

pub slice_bounds-fields-end : goal.slice_bounds-fields-end
slice_bounds-fields-end c = let fits = few (goal.at.slice_bounds-fields-end c).In_ok-rows_size in search rules

pub slice_bounds-table-end : goal.slice_bounds-table-end
slice_bounds-table-end c = let fits = few (goal.at.slice_bounds-table-end c).In_ok-rows_size in simp length-take (omega arith)

pub table-requires : goal.table-requires
table-requires c = let fits = few (goal.at.table-requires c).In_ok-rows_size in simp length-take (omega arith)

pub returns : goal.returns
unfolding rows_check
returns c =
    let rows : List ℕ = c.args.rows.now in
    let answer = rows_told rows
    (rw (← c.in_ok-rows_size.ensures)
    (c.table.ensures ∙ ap table_check (ap (take (length rows)) c.widen.ensures ∙ take-append_seam rows _))) in record { value = answer.0; in_numbers = answer.1 }
