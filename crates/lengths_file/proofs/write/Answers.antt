-- `lengths_file::write` meets its contract: lengths that passed are written where the file has room, and else it is left.
use Rattle.std.specs.Prelude.{Ok}
use mathlib.Core.Path.{◌≡◌, sym}
use Rattle.std.proofs.lemmas.Result.{err_from_is_err_and}
use Rattle.table_checks.specs.Checks.{lengths_check}
use Rattle.lengths_file.specs.Lengths.{text_of}
use Rattle.table_checks.proofs.Laws.Returns.{lengths-returned}
use Rattle.frame_table.specs.Laws.Returns.{answer-told}
use Rattle.frame_table.specs.Laws.Areas.{area-refused, area-short, area-written}
use Rattle.lengths_file.proofs.Laws.Layout.{length-text}
use Rattle.lengths_file.proofs.write.Goals as goal
use Rattle.lengths_file.proofs.write.Goals.{In_ok-check_lengths}

-- the lengths passed
passed : (c : In_ok-check_lengths) → lengths_check c.args.lengths ≡ Ok tt
passed c = sym c.in_ok-check_lengths.ensures.value

pub returns-then-file-lt-FILE : goal.returns-then-file-lt-FILE
returns-then-file-lt-FILE c =
    let ls = c.args.lengths in
    let both = area-short (lengths_check ls) (text_of ls) c.args.file.now 92 c.no_room.result (length-text ls) (passed (goal.at.returns-then-file-lt-FILE c).In_ok-check_lengths) c.if-file-lt-FILE.true c.no_room.ensures in
    let answer = answer-told (lengths_check ls) (text_of ls) c.args.file.now both in
    record { value = both.0; file_after = both.1; in_numbers = rw (← lengths-returned ls) answer.1.1 }

pub returns-in_err-check_lengths : goal.returns-in_err-check_lengths
returns-in_err-check_lengths c =
    let ls = c.args.lengths in
    let p = err_from_is_err_and c.from_residual.result c.from_residual.ensures.1 in
    let both = area-refused (lengths_check ls) (text_of ls) c.args.file.now _ _ (sym c.in_err-check_lengths.ensures.value) (rw p.2 at p.1) in
    let answer = answer-told (lengths_check ls) (text_of ls) c.args.file.now both in
    record { value = both.0; file_after = both.1; in_numbers = rw (← lengths-returned ls) answer.1.1 }

pub returns : goal.returns
returns c =
    let ls = c.args.lengths in
    let both = area-written (lengths_check ls) (text_of ls) c.args.file.now 92 c.write_lines.new.file (length-text ls) (passed (goal.at.returns c).In_ok-check_lengths) c.if-file-lt-FILE.false c.write_lines.ensures in
    let answer = answer-told (lengths_check ls) (text_of ls) c.args.file.now both in
    record { value = both.0; file_after = both.1; in_numbers = rw (← lengths-returned ls) answer.1.1 }
