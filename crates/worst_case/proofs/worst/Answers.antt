-- A table that a check turns back is refused with its cause and shows nothing; else the last row is judged, and what it shows is reached.
use mathlib.Core.Path.{refl, ◌∙◌}
use Rattle.row_judgement.specs.Laws.Judged.{table-refused}
use Rattle.worst_case.specs.Answer.{worst_checked}
use Rattle.worst_case.specs.Laws.Answer.{worst-told, worst-refused, worst-accepted}
use Rattle.worst_case.proofs.worst.Goals as goal

pub returns-in-Err : goal.returns-in-Err
unfolding worst_checked
returns-in-Err c =
    let a = c.args in
    let refused = (table-refused a.lengths a.rows.now _ c.in-Err.ensures c.from.ensures).0 in
    let answer = worst-told a.lengths a.rows.now (worst-refused a.lengths a.rows.now refused (rw c.in-Err.ensures) refl) in record { value = answer.0; reached = answer.1.0; in_numbers = answer.1.1 }

pub returns-in-Ok : goal.returns-in-Ok
returns-in-Ok c =
    let a = c.args in
    let (lengths, rows, passed) = c.in-Ok.ensures in
    let answer = worst-told a.lengths a.rows.now (rw (lengths, rows) at c.worst_of_rows.ensures ∙ worst-accepted a.lengths a.rows.now passed) in record { value = answer.0; reached = answer.1.0; in_numbers = answer.1.1 }
