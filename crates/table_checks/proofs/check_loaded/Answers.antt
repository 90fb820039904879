-- `table_checks::check_loaded` meets its contract: the lengths come first.
use mathlib.Core.Path.{sym}
use Rattle.std.proofs.lemmas.Result.{err_from_is_err_and}
use Rattle.table_checks.specs.Checks.{loaded_check}
use Rattle.table_checks.proofs.Laws.Returns.{loaded-told}
use Rattle.table_checks.proofs.check_loaded.Goals as goal

pub returns-in_err-check_lengths : goal.returns-in_err-check_lengths
unfolding loaded_check
returns-in_err-check_lengths c =
    let a = c.args in
    let answer = loaded-told a.lengths a.rows.now (let p = err_from_is_err_and c.from_residual.result c.from_residual.ensures.1 in rw (p.1, p.2, ← c.in_err-check_lengths.ensures.value)) in record { value = answer.0; in_numbers = answer.1 }

pub returns : goal.returns
unfolding loaded_check
returns c =
    let a = c.args in
    let answer = loaded-told a.lengths a.rows.now (simp (sym c.in_ok-check_lengths.ensures.value) c.check.ensures.value) in record { value = answer.0; in_numbers = answer.1 }
