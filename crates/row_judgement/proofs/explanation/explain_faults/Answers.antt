-- A refusal comes without a case; else the row is judged under the premise, with its case.
use Rattle.bus_model.specs.declared.Faults.TheVariants.{Apart}
use Rattle.row_judgement.specs.Laws.Explain.{refused-beside, explained-faults-told}
use Rattle.row_judgement.proofs.explanation.explain_faults.Goals as goal

pub returns-in-Ok : goal.returns-in-Ok
returns-in-Ok c =
    let a = c.args in
    let answer = explained-faults-told a.lengths a.rows.now a.row a.gap c.in-Ok.ensures in
    record { value = answer.0; never_late = answer.1.0; in_numbers = answer.1.1 }

pub returns-in-Err : goal.returns-in-Err
returns-in-Err c =
    let a = c.args in
    let answer = explained-faults-told a.lengths a.rows.now a.row a.gap (refused-beside (Apart a.gap) a.lengths a.rows.now a.row _ c.in-Err.ensures) in
    record { value = answer.0; never_late = answer.1.0; in_numbers = answer.1.1 }
