-- Files that are turned back are answered with their refusal; of a table that was read the last frame is shown.
use mathlib.Core.Path.{ap, ◌∙◌}
use Rattle.std.proofs.lemmas.Result.{err_from_is_err_and}
use Rattle.std.specs.Prelude.{Err}
use Rattle.frame_table.specs.Laws.Areas.{area-refused}
use Rattle.worst_command.proofs.write_files.Goals as goal

pub returns-in_err-table : goal.returns-in_err-table
returns-in_err-table c =
    let p = err_from_is_err_and c.from_residual.result c.from_residual.ensures.1 in
    let answer = area-refused _ _ _ _ _ c.in_err-table.ensures (p.1 ∙ ap Err p.2) in record { value = answer.0; out_after = answer.1 }

pub returns : goal.returns
returns c =
    let (passed, lengths, rows) = c.in_ok-table.ensures in
    record {
      value = rw (passed, ← lengths, ← rows) c.write_last.ensures.value;
      out_after = rw (← lengths, ← rows) c.write_last.ensures.out_after;
    }
