-- A refusal comes without a case; else the row is judged, with its case.
use Rattle.bus_model.specs.declared.Faults.TheVariants.{Never}
use Rattle.row_judgement.specs.Laws.Explain.{refused-beside, explained-told}
use Rattle.row_judgement.proofs.explanation.explain.Goals as goal

pub returns-in-Ok : goal.returns-in-Ok
returns-in-Ok c =
    let a = c.args in
    let answer = explained-told a.lengths a.rows.now a.row c.in-Ok.ensures in
    record { value = answer.0; never_late = answer.1.0; in_numbers = answer.1.1 }

pub returns-in-Err : goal.returns-in-Err
returns-in-Err c =
    let a = c.args in
    let answer = explained-told a.lengths a.rows.now a.row (refused-beside Never a.lengths a.rows.now a.row _ c.in-Err.ensures) in
    record { value = answer.0; never_late = answer.1.0; in_numbers = answer.1.1 }
