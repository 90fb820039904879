-- `load_sheet::sheet::write` meets its contract: lengths and a table that are turned back are answered with their refusal, and by others the
-- sheet is written.
use Rattle.std.proofs.lemmas.Result.{err_from_is_err_and}
use Rattle.frame_table.specs.Laws.Areas.{area-refused}
use Rattle.frame_table.specs.Text.{fields_of}
use Rattle.lengths_file.specs.Lengths.{lengths_of}
use Rattle.lengths_file.proofs.Laws.Input.{input-told}
use Rattle.load_sheet.specs.Sheet.{sheet_of}
use Rattle.load_sheet.proofs.sheet.write.Goals as goal

pub returns-in_err-table : goal.returns-in_err-table
returns-in_err-table c =
    let p = err_from_is_err_and c.from_residual.result c.from_residual.ensures.1 in
    let answer = input-told _ _ _ _ (area-refused _ _ _ _ _ c.in_err-table.ensures (rw p.2 at p.1)) in
    record { value = answer.0; out_after = answer.1.0; in_numbers = answer.1.1 }

pub returns : goal.returns
returns c =
    let a = c.args in
    let (passed, lengths, rows) = c.in_ok-table.ensures in
    let t = c.write_rows in
    let answer =
    input-told a.lengths.now a.file.now (sheet_of (lengths_of a.lengths.now) (fields_of a.file.now)) a.out.now {a = t.result} {l = t.new.out}
    (rw (passed, ← lengths, ← rows) t.ensures.value, rw (← lengths, ← rows) t.ensures.out_after)
    in record { value = answer.0; out_after = answer.1.0; in_numbers = answer.1.1 }
