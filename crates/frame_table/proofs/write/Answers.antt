-- `frame_table::write` meets its contract: rows that passed are written where their text has room, and else the area is left.
use Rattle.std.specs.Prelude.{Ok}
use mathlib.Core.Path.{◌≡◌, sym}
use Rattle.std.proofs.lemmas.Result.{err_from_is_err_and}
use Rattle.table_checks.specs.Checks.{rows_check}
use Rattle.frame_table.specs.Text.{text_of}
use Rattle.frame_table.specs.Laws.Layout.{length-text}
use Rattle.frame_table.specs.Laws.Areas.{area-refused, area-short, area-written}
use Rattle.frame_table.specs.Laws.Returns.{answer-told}
use Rattle.frame_table.proofs.write.Goals as goal
use Rattle.frame_table.proofs.write.Goals.{In_ok-check}

-- the rows passed
passed : (c : In_ok-check) → rows_check c.args.rows.now ≡ Ok tt
passed c = sym c.in_ok-check.ensures.value

pub returns-then-file-lines : goal.returns-then-file-lines
returns-then-file-lines c =
    let answer = answer-told _ _ _ (area-short _ _ _ _ _ (length-text _) (passed (goal.at.returns-then-file-lines c).In_ok-check) c.if-file-lines.true c.no_room.ensures) in record { value = answer.0; file_after = answer.1.0; in_numbers = answer.1.1 }

pub returns-in_err-check : goal.returns-in_err-check
returns-in_err-check c =
    let p = err_from_is_err_and c.from_residual.result c.from_residual.ensures.1 in
    let answer = answer-told _ _ _ (area-refused _ _ _ _ _ (sym c.in_err-check.ensures.value) (rw p.2 at p.1)) in record { value = answer.0; file_after = answer.1.0; in_numbers = answer.1.1 }

pub returns : goal.returns
unfolding text_of
returns c =
    let rows = c.args.rows.now in
    let answer = answer-told _ _ _ (area-written _ _ _ _ _ (length-text rows) (passed (goal.at.returns c).In_ok-check) c.if-file-lines.false c.write_lines.ensures) in record { value = answer.0; file_after = answer.1.0; in_numbers = answer.1.1 }
