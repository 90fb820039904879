-- The table passes its checks; a missing row is refused, and another is judged.
use Rattle.std.specs.Prelude.{Ok}
use mathlib.Core.Path.{sym, ap, ◌∙◌}
use Rattle.std.proofs.lemmas.Result.{err_from_is_err_and}
use Rattle.workload.proofs.Laws.Groups.{fine-never}
use Rattle.row_judgement.specs.Laws.Judged.{both-loaded, found-inside, row-missing, row-judged}
use Rattle.row_judgement.proofs.judgement.judge_accepted.Goals as goal

pub returns-in_err-i : goal.returns-in_err-i
returns-in_err-i c =
    let table = c.args.table.now in
    let p = err_from_is_err_and c.from_residual.result c.from_residual.ensures.1 in
    rw (p.1, p.2) (sym (row-missing table.lengths table.rows.now c.args.row (both-loaded table.lengths table.rows.now table.accepted) c.in_err-i.ensures).0)

pub judge_row-requires : goal.judge_row-requires
judge_row-requires c = record { i_in_bounds = found-inside c.args.table.now.lengths c.args.table.now.rows.now c.in_ok-i.ensures; fine_faults = fine-never }

pub returns : goal.returns
returns c =
    let table = c.args.table.now in
    ap Ok c.judge_row.ensures ∙ sym (row-judged table.lengths table.rows.now c.args.row (both-loaded table.lengths table.rows.now table.accepted) c.in_ok-i.ensures)
