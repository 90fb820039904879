-- A refusal of the files leaves the area; a table that was read is listed.
use Rattle.std.proofs.Common.{rules}
use mathlib.Core.Path.{refl}
use Rattle.std.proofs.lemmas.Result.{err_from_is_err_and}
use Rattle.frame_table.specs.Laws.Areas.{area-refused}
use Rattle.lengths_file.proofs.Laws.Input.{ReadInput, lengths-refused, table-refused, input_read, input-told}
use Rattle.workload.proofs.Laws.Groups.{fine-never}
use Rattle.certifier.proofs.listing.list.Goals as goal
use Rattle.certifier.proofs.listing.list.Goals.{In-Ok}

pub list_rows-requires : goal.list_rows-requires
list_rows-requires c = fine-never

pub returns-in_err-lengths : goal.returns-in_err-lengths
returns-in_err-lengths c =
    let p = err_from_is_err_and c.from_residual.result c.from_residual.ensures.1 in
    let answer = input-told _ _ _ _ (area-refused _ _ _ _ _ (lengths-refused _ _ c.in_err-lengths.ensures) (rw (p.1, p.2))) in
    record { value = answer.0; out_after = answer.1.0; in_numbers = answer.1.1 }

both : (c : In-Ok) → ReadInput c.args.lengths.now c.args.file.now c.in_ok-lengths.lengths c.read.new.rows c.in-Ok.size
both c = input_read _ _ c.in_ok-lengths.ensures _ _ (search rules) c.read.ensures.value _ _ c.read.ensures.rows_after c.in-Ok.is

pub invariant_of-list_rows : goal.invariant_of-list_rows
invariant_of-list_rows c = let b = both (goal.at.invariant_of-list_rows c).In-Ok in record { accepted = (b.loadable, b.table.accepted) }

pub returns-in-Err : goal.returns-in-Err
returns-in-Err c =
    let refused = table-refused _ _ c.in_ok-lengths.ensures.0 _ _ (search rules) c.read.ensures.value c.in-Err.is in
    let answer = input-told _ _ _ _ (area-refused _ _ _ _ _ refused refl) in
    record { value = answer.0; out_after = answer.1.0; in_numbers = answer.1.1 }

pub returns-in-Ok : goal.returns-in-Ok
returns-in-Ok c =
    let b = both (goal.at.returns-in-Ok c).In-Ok in
    let answer = input-told _ _ _ _ (rw (b.passed, ← b.is, ← b.table.rows) (c.list_rows.ensures.value, c.list_rows.ensures.out_after)) in
    record { value = answer.0; out_after = answer.1.0; in_numbers = answer.1.1 }
