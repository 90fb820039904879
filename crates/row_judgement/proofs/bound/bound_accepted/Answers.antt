-- The table passes its checks; a missing row is refused, and of another the bound is answered that is found without a claim.
use mathlib.Core.Path.{sym, ap, ◌∙◌}
use native.Mathlib.Omega.{arith}
use Rattle.std.proofs.lemmas.Result.{err_from_is_err_and}
use Rattle.table_checks.proofs.Laws.Accepted.{accepted-size}
use Rattle.workload.proofs.Laws.Groups.{fine-never}
use Rattle.row_judgement.specs.Decide.{bounded_by}
use Rattle.row_judgement.specs.Laws.Judged.{both-loaded, found-inside, row-missing, row-bounded, decided-bound}
use Rattle.row_judgement.proofs.bound.bound_accepted.Goals as goal

pub returns-in_err-i : goal.returns-in_err-i
returns-in_err-i c =
    let table = c.args.table.now in
    let p = err_from_is_err_and c.from_residual.result c.from_residual.ensures.1 in
    rw (p.1, p.2) (sym (row-missing table.lengths table.rows.now c.args.row (both-loaded table.lengths table.rows.now table.accepted) c.in_err-i.ensures).2)

pub decide-bound-requires : goal.decide-bound-requires
decide-bound-requires c = record { i_in_bounds = found-inside c.args.table.now.lengths c.args.table.now.rows.now c.in_ok-i.ensures; fine_faults = fine-never }

pub overflow_cast-i : goal.overflow_cast-i
overflow_cast-i c = omega (arith, c.in_ok-i.ensures, (accepted-size _ c.args.table.now.accepted.1).most)

pub returns : goal.returns
returns c =
    let table = c.args.table.now in
    c.bounded.ensures ∙ ap (bounded_by c.in_ok-i.i) c.decide-bound.ensures ∙ decided-bound _ c.in_ok-i.i
    ∙ sym (row-bounded table.lengths table.rows.now c.args.row (both-loaded table.lengths table.rows.now table.accepted) c.in_ok-i.ensures)
