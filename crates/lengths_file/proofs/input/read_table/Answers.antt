-- The lengths come first, and then the table.
use Rattle.std.proofs.Common.{rules}
use Rattle.std.proofs.lemmas.Result.{err_from_is_err_and}
use Rattle.lengths_file.proofs.Laws.Input.{ReadInput, lengths-refused, table-refused, input_read}
use Rattle.lengths_file.proofs.input.read_table.Goals as goal
use Rattle.lengths_file.proofs.input.read_table.Goals.{In_ok-size}

pub returns-in_err-lengths : goal.returns-in_err-lengths
returns-in_err-lengths c =
    let p = err_from_is_err_and c.from_residual.result c.from_residual.ensures.1 in
    rw p.1 (rw p.2 (lengths-refused _ _ c.in_err-lengths.ensures))

pub returns-in_err-size : goal.returns-in_err-size
returns-in_err-size c =
    let p = err_from_is_err_and c.from_residual-in_err-size.result c.from_residual-in_err-size.ensures.1 in
    rw p.1 (rw p.2 (table-refused _ _ c.in_ok-lengths.ensures.0 _ _ (search rules) c.read.ensures.value c.in_err-size.was))

both : (c : In_ok-size) → ReadInput c.args.lengths.now c.args.file.now c.in_ok-lengths.lengths c.read.new.rows c.in_ok-size.size
both c = input_read _ _ c.in_ok-lengths.ensures _ _ (search rules) c.read.ensures.value _ _ c.read.ensures.rows_after c.in_ok-size.was

pub invariant_of-result : goal.invariant_of-result
invariant_of-result c = let b = both (goal.at.invariant_of-result c).In_ok-size in record { accepted = (b.loadable, b.table.accepted) }

pub returns : goal.returns
returns c = let b = both (goal.at.returns c).In_ok-size in (b.passed, b.is, b.table.rows)
