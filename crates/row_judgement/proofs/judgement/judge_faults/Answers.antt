-- A table that a check turns back is refused with its cause, and of another the row is judged under the premise; in every case the answer is the row's
-- judgement, and the theory says of the judgement that a certified frame meets its claim, and when the margin is below zero.
use mathlib.Core.Path.{sym}
use Rattle.std.proofs.lemmas.Result.{err_from_is_err_and}
use Rattle.row_judgement.specs.Laws.Judged.{table-refused}
use Rattle.row_judgement.specs.Laws.Returns.{faults-told}
use Rattle.row_judgement.proofs.judgement.judge_faults.Goals as goal

pub returns-in_err-table : goal.returns-in_err-table
returns-in_err-table c =
    let a = c.args in
    let p = err_from_is_err_and c.from_residual.result c.from_residual.ensures.1 in
    let answer = faults-told a.lengths a.rows.now a.row a.gap (rw p.1 (sym ((table-refused a.lengths a.rows.now a.row c.in_err-table.ensures p.2).1 a.gap))) in record { value = answer.0; never_late = answer.1.0; margin_sign = answer.1.1.0; in_numbers = answer.1.1.1 }

pub returns : goal.returns
returns c =
    let a = c.args in
    let (lengths, rows, _) = c.in_ok-table.ensures in
    let answer = faults-told a.lengths a.rows.now a.row a.gap (rw (lengths, rows) at c.judge_faults_accepted.ensures) in record { value = answer.0; never_late = answer.1.0; margin_sign = answer.1.1.0; in_numbers = answer.1.1.1 }
