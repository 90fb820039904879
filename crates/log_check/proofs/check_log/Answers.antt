-- `log_check::check_log` meets its contract: each answer is that of the definition.
use mathlib.Core.Path.{sym}
use Rattle.std.proofs.lemmas.Result.{err_from_is_err_and}
use Rattle.log_check.specs.Check.{checked_answer}
use Rattle.log_check.specs.Laws.Answer.{told}
use Rattle.log_check.proofs.check_log.Goals as goal

pub returns-in_err-table : goal.returns-in_err-table
unfolding checked_answer
returns-in_err-table c =
    let p = err_from_is_err_and c.from_residual.result c.from_residual.ensures.1 in
    let answer = told _ _ _ (sym c.in_err-table.ensures) (rw (p.1, p.2)) in
    record { value = answer.0; says = answer.1.0; in_numbers = answer.1.1 }

pub returns : goal.returns
unfolding checked_answer
returns c =
    let t = c.in_ok-table.ensures in
    let answer = told _ _ _ (sym t.2) (rw (← t.0, ← t.1) c.check_text.ensures) in
    record { value = answer.0; says = answer.1.0; in_numbers = answer.1.1 }
