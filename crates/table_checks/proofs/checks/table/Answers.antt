-- `table_checks::checks::table` meets its contract: the lines come first, and where they pass, the periods are within their limits.
use mathlib.Core.Path.{sym}
use Rattle.std.proofs.lemmas.Result.{err_from_is_err_and}
use Rattle.table_checks.specs.Checks.{table_check}
use Rattle.table_checks.proofs.Laws.Limits.{lines-periods}
use Rattle.table_checks.proofs.checks.table.Goals as goal

pub returns-in_err-lines : goal.returns-in_err-lines
unfolding table_check
returns-in_err-lines c = let p = err_from_is_err_and c.from_residual.result c.from_residual.ensures.1 in rw (p.1, p.2, ← c.in_err-lines.ensures)

pub groups-requires-clause-periods : goal.groups-requires-clause-periods
groups-requires-clause-periods c = lines-periods _ (sym (c.in_ok-lines.ensures))

pub returns : goal.returns
unfolding table_check
returns c = rw (← c.in_ok-lines.ensures) c.groups.ensures
