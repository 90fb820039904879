-- A table that a check turns back is refused with its cause, then a missing row; else the row is judged, with its case.
use mathlib.Core.Path.{refl}
use Rattle.std.proofs.lemmas.Result.{err_from_is_err_and}
use Rattle.bus_model.specs.declared.Faults.TheVariants.{Never}
use Rattle.workload.proofs.Laws.Groups.{fine-never}
use Rattle.row_judgement.specs.Laws.Judged.{found-inside, table-refused, row-missing, row-judged}
use Rattle.row_judgement.specs.Laws.Explain.{judged-beside}
use Rattle.row_judgement.proofs.explanation.explained.Goals as goal

pub returns-in_err-table : goal.returns-in_err-table
returns-in_err-table c =
    let a = c.args in
    let p = err_from_is_err_and c.from_residual.result c.from_residual.ensures.1 in
    rw p.1 (table-refused a.lengths a.rows.now a.row c.in_err-table.ensures p.2).0

pub returns-in_err-i : goal.returns-in_err-i
returns-in_err-i c =
    let a = c.args in
    let (_, rows, passed) = c.in_ok-table.ensures in
    let p = err_from_is_err_and c.from_residual-in_err-i.result c.from_residual-in_err-i.ensures.1 in
    rw (p.1, p.2) (row-missing a.lengths a.rows.now a.row passed (rw rows at c.in_err-i.ensures)).0

pub explain_row-requires : goal.explain_row-requires
explain_row-requires c = record { i_in_bounds = found-inside c.in_ok-table.table.lengths c.in_ok-table.table.rows.now c.in_ok-i.ensures; fine_faults = fine-never }

pub returns : goal.returns
returns c =
    let a = c.args in
    let (lengths, rows, passed) = c.in_ok-table.ensures in
    let found = rw rows at c.in_ok-i.ensures in
    judged-beside Never a.lengths a.rows.now a.row (rw (lengths, rows, found.0) at c.explain_row.ensures) (row-judged a.lengths a.rows.now a.row passed (refl, found.1))
