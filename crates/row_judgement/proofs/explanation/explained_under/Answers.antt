-- A table that a check turns back is refused with its cause, then a missing row, then a gap outside its limits; else the row is judged under the
-- premise, with its case.
use mathlib.Core.Path.{refl}
use Rattle.std.proofs.lemmas.Result.{err_from_is_err_and}
use Rattle.bus_model.specs.declared.Faults.TheVariants.{Apart}
use Rattle.row_judgement.specs.Laws.Judged.{found-inside, table-refused, row-missing, gap-refused, row-judged-under, premise-fine}
use Rattle.row_judgement.specs.Laws.Explain.{judged-beside}
use Rattle.row_judgement.proofs.explanation.explained_under.Goals as goal

pub returns-in_err-table : goal.returns-in_err-table
returns-in_err-table c =
    let a = c.args in
    let p = err_from_is_err_and c.from_residual.result c.from_residual.ensures.1 in
    rw p.1 ((table-refused a.lengths a.rows.now a.row c.in_err-table.ensures p.2).1 a.gap)

pub returns-in_err-i : goal.returns-in_err-i
returns-in_err-i c =
    let a = c.args in
    let (_, rows, passed) = c.in_ok-table.ensures in
    let p = err_from_is_err_and c.from_residual-in_err-i.result c.from_residual-in_err-i.ensures.1 in
    rw (p.1, p.2) ((row-missing a.lengths a.rows.now a.row passed (rw rows at c.in_err-i.ensures)).1 a.gap)

pub returns-in_err-faults : goal.returns-in_err-faults
returns-in_err-faults c =
    let a = c.args in
    let (_, rows, passed) = c.in_ok-table.ensures in
    let p = err_from_is_err_and c.from_residual-in_err-faults.result c.from_residual-in_err-faults.ensures.1 in
    rw (p.1, p.2) (gap-refused a.lengths a.rows.now a.row passed (rw rows at c.in_ok-i.ensures) a.gap c.in_err-faults.ensures)

pub explain_row-requires : goal.explain_row-requires
explain_row-requires c =
    record { i_in_bounds = found-inside c.in_ok-table.table.lengths c.in_ok-table.table.rows.now c.in_ok-i.ensures; fine_faults = premise-fine c.args.gap c.in_ok-faults.ensures }

pub returns : goal.returns
returns c =
    let a = c.args in
    let (lengths, rows, passed) = c.in_ok-table.ensures in
    let found = rw rows at c.in_ok-i.ensures in
    let premise = c.in_ok-faults.ensures in
    judged-beside (Apart a.gap) a.lengths a.rows.now a.row (rw (lengths, rows, found.0, premise.1) at c.explain_row.ensures)
    (row-judged-under a.lengths a.rows.now a.row passed (refl, found.1) a.gap (premise.0, refl))
