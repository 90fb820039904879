-- A table that a check turns back is refused with its cause, and of another the row's bound is answered.
use mathlib.Core.Path.{sym}
use Rattle.std.proofs.lemmas.Result.{err_from_is_err_and}
use Rattle.row_judgement.specs.Laws.Judged.{table-refused}
use Rattle.row_judgement.specs.Laws.Returns.{bounded-told}
use Rattle.row_judgement.proofs.bound.precise_bound.Goals as goal

pub returns-in_err-table : goal.returns-in_err-table
returns-in_err-table c =
    let a = c.args in
    let p = err_from_is_err_and c.from_residual.result c.from_residual.ensures.1 in
    let answer = bounded-told a.lengths a.rows.now a.row (rw p.1 (sym (table-refused a.lengths a.rows.now a.row c.in_err-table.ensures p.2).2)) in record { value = answer.0; in_numbers = answer.1 }

pub returns : goal.returns
returns c =
    let a = c.args in
    let (lengths, rows, _) = c.in_ok-table.ensures in
    let answer = bounded-told a.lengths a.rows.now a.row (rw (lengths, rows) at c.bound_accepted.ensures) in record { value = answer.0; in_numbers = answer.1 }
