-- `log_load::operation::busiest` meets its contract: a log that is turned back is answered with its refusal, and of another the sheet is written.
use mathlib.Core.Path.{◌∙◌, ap}
use Rattle.std.specs.Prelude.{Err}
use Rattle.std.proofs.lemmas.Result.{err_from_is_err_and}
use Rattle.table_checks.proofs.Laws.Accepted.{loaded-both}
use Rattle.log_load.specs.Theory.Meaning.{Ready, ready}
use Rattle.log_load.specs.Theory.Told.{told-refused, told-accepted}
use Rattle.log_load.proofs.operation.busiest.Goals as goal
use Rattle.log_load.proofs.operation.busiest.Goals.{In_ok-check_log}

accepted : (c : In_ok-check_log) → Ready c.args.lengths c.args.rows.now c.args.log.now
accepted c = ready _ _ _ _ _ c.in_ok-check_log.ensures.says (λ h. (loaded-both _ _ h).1)

pub invariant_of-write_accepted : goal.invariant_of-write_accepted
invariant_of-write_accepted c =
    let a = accepted (goal.at.invariant_of-write_accepted c).In_ok-check_log in
    record { readable = a.holds; ordered = a.ordered }

pub write_accepted-requires : goal.write_accepted-requires
write_accepted-requires c = (accepted (goal.at.write_accepted-requires c).In_ok-check_log).table

pub returns-in_err-check_log : goal.returns-in_err-check_log
returns-in_err-check_log c =
    let a = c.check_log.ensures in
    let p = err_from_is_err_and c.from_residual.result c.from_residual.ensures.1 in
    let answer = told-refused _ _ _ _ _ _ _ _ a.value a.in_numbers _ c.in_err-check_log.was (p.1 ∙ ap Err p.2) in
    record { value = answer.0; out_after = answer.1.0; says = answer.1.1.0; in_numbers = answer.1.1.1 }

pub returns : goal.returns
returns c =
    let a = c.check_log.ensures in
    let w = c.write_accepted.ensures in
    let answer = told-accepted _ _ _ _ _ _ _ _ a.value a.in_numbers _ _ c.in_ok-check_log.was (accepted (goal.at.returns c).In_ok-check_log) (w.value, w.out_after) in
    record { value = answer.0; out_after = answer.1.0; says = answer.1.1.0; in_numbers = answer.1.1.1 }
