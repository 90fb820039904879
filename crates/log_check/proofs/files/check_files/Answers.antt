-- `log_check::files::check_files` meets its contract: lengths or a table that are turned back are answered with their refusal.
use Rattle.std.proofs.lemmas.Result.{err_from_is_err_and}
use Rattle.log_check.specs.Check.{checked_answer, files_answer}
use Rattle.log_check.specs.Laws.Answer.{files-told}
use Rattle.log_check.proofs.files.check_files.Goals as goal

pub returns-in_err-table : goal.returns-in_err-table
unfolding files_answer checked_answer
returns-in_err-table c =
    let p = err_from_is_err_and c.from_residual.result c.from_residual.ensures.1 in
    let t = files-told c.args.lengths.now c.args.table.now c.args.text.now (rw (c.in_err-table.ensures, p.1, p.2)) in
    record { value = t.0; says = t.1.0; in_numbers = t.1.1 }

pub returns : goal.returns
unfolding files_answer checked_answer
returns c =
    let e = c.in_ok-table.ensures in
    let t = files-told c.args.lengths.now c.args.table.now c.args.text.now (rw (e.0, ← e.1, ← e.2) c.check_text.ensures) in
    record { value = t.0; says = t.1.0; in_numbers = t.1.1 }
