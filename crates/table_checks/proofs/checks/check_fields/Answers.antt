-- `table_checks::checks::check_fields` meets its contract: the size is checked first, and a table whose size is right is short.
use mathlib.Core.Path.{sym}
use Rattle.std.proofs.lemmas.Result.{err_from_is_err_and}
use Rattle.table_checks.specs.Checks.{rows_check}
use Rattle.table_checks.proofs.Laws.Sizes.{rows-size}
use Rattle.table_checks.proofs.Laws.Returns.{rows_told}
use Rattle.table_checks.proofs.checks.check_fields.Goals as goal

pub returns-in_err-rows_size : goal.returns-in_err-rows_size
unfolding rows_check
returns-in_err-rows_size c = let answer = rows_told c.args.t.now (let p = err_from_is_err_and c.from_residual.result c.from_residual.ensures.1 in rw (p.1, p.2, ← c.in_err-rows_size.ensures)) in record { value = answer.0; in_numbers = answer.1 }

pub table-requires : goal.table-requires
table-requires c = (rows-size _ (sym c.in_ok-rows_size.ensures)).most

pub returns : goal.returns
unfolding rows_check
returns c =
    let answer = rows_told c.args.t.now
    (rw (← c.in_ok-rows_size.ensures) c.table.ensures) in record { value = answer.0; in_numbers = answer.1 }
