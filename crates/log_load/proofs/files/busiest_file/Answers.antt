-- `log_load::files::busiest_file` meets its contract: a log that is turned back is answered with its refusal, and of another the sheet is written.
use mathlib.Core.Path.{◌∙◌, ap}
use Rattle.std.specs.Prelude.{Err}
use Rattle.std.proofs.lemmas.Result.{err_from_is_err_and}
use Rattle.frame_table.specs.Text.{fields_of}
use Rattle.lengths_file.specs.Lengths.{lengths_of}
use Rattle.log_load.specs.Theory.Meaning.{Ready, check-passed, table-read, ready}
use Rattle.log_load.specs.Theory.Told.{told-refused, told-accepted}
use Rattle.log_load.proofs.files.busiest_file.Goals as goal
use Rattle.log_load.proofs.files.busiest_file.Goals.{In_ok-check_files}

accepted : (c : In_ok-check_files) → Ready (lengths_of c.args.lengths.now) (fields_of c.args.table.now) c.args.log.now
accepted c = ready _ _ _ _ _ c.in_ok-check_files.ensures.says (λ h. (table-read _ _ h).1)

pub invariant_of-write_table : goal.invariant_of-write_table
invariant_of-write_table c =
    let a = accepted (goal.at.invariant_of-write_table c).In_ok-check_files in
    record { readable = a.holds; ordered = a.ordered }

pub write_table-requires : goal.write_table-requires
write_table-requires c = (table-read _ _ (check-passed _ _ _ _ _ c.in_ok-check_files.ensures.says)).0

pub returns-in_err-check_files : goal.returns-in_err-check_files
returns-in_err-check_files c =
    let a = c.check_files.ensures in
    let p = err_from_is_err_and c.from_residual.result c.from_residual.ensures.1 in
    let answer = told-refused _ _ _ _ _ _ _ _ a.value a.in_numbers _ c.in_err-check_files.was (p.1 ∙ ap Err p.2) in
    record { value = answer.0; out_after = answer.1.0; says = answer.1.1.0; in_numbers = answer.1.1.1 }

pub returns : goal.returns
returns c =
    let a = c.check_files.ensures in
    let w = c.write_table.ensures in
    let answer = told-accepted _ _ _ _ _ _ _ _ a.value a.in_numbers _ _ c.in_ok-check_files.was (accepted (goal.at.returns c).In_ok-check_files) (w.value, w.out_after) in
    record { value = answer.0; out_after = answer.1.0; says = answer.1.1.0; in_numbers = answer.1.1.1 }
