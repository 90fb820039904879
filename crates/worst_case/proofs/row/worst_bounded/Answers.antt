-- The bound without a claim; where it is the precise one, the first case for a tick less, with what is prepared and remembered.
use native.Mathlib.Omega.{arith}
use Rattle.workload.proofs.Laws.Groups.{fine-never}
use Rattle.row_judgement.specs.Laws.Explain.{remembers-new}
use Rattle.worst_case.specs.Laws.Answer.{none-due, precise-windows, precise-some, precise-exists, precise-within, precise-due}
use Rattle.worst_case.proofs.row.worst_bounded.Goals as goal

pub pose_row-setting-requires : goal.pose_row-setting-requires
pose_row-setting-requires c = record { i_in_bounds = c.requires; fine_faults = fine-never }

pub find-requires : goal.find-requires
find-requires c = remembers-new c.pose_row-setting.result

pub returns-in_default : goal.returns-in_default
returns-in_default c =
    let table = c.args.table.now in
    none-due table.lengths table.rows.now c.args.i c.pose_row-setting.ensures.frames_value c.pose_row-setting.ensures.target c.find.ensures.value c.in_default.not-Precise

pub overflow_sub-bound : goal.overflow_sub-bound
overflow_sub-bound c =
    let table = c.args.table.now in
    omega (arith, precise-some table.lengths table.rows.now c.args.i c.pose_row-setting.ensures.frames_value c.pose_row-setting.ensures.target c.find.ensures.value c.in-Precise.is table.accepted.0 table.accepted.1 c.requires)

pub first_case-requires : goal.first_case-requires
first_case-requires c =
    let table = c.args.table.now in
    record { remembered = c.find.ensures.remembered; frame_value = precise-windows table.lengths table.rows.now c.args.i c.pose_row-setting.ensures.frames_value c.pose_row-setting.ensures.target c.find.ensures.value c.in-Precise.is }

pub returns-in_err-case : goal.returns-in_err-case
returns-in_err-case c =
    let table = c.args.table.now in
    absurd (precise-exists table.lengths table.rows.now c.args.i c.pose_row-setting.ensures.frames_value c.pose_row-setting.ensures.target c.find.ensures.value c.in-Precise.is table.accepted.0 table.accepted.1 c.requires c.in_err-case.ensures)

pub show-requires : goal.show-requires
show-requires c =
    let table = c.args.table.now in
    precise-within table.lengths table.rows.now c.args.i c.pose_row-setting.ensures.frames_value c.pose_row-setting.ensures.target c.find.ensures.value c.in-Precise.is table.accepted.0 table.accepted.1 c.requires c.in_ok-case.ensures

pub returns : goal.returns
returns c =
    let table = c.args.table.now in
    precise-due table.lengths table.rows.now c.args.i c.pose_row-setting.ensures.frames_value c.pose_row-setting.ensures.target c.find.ensures.value c.in-Precise.is c.in_ok-case.ensures c.show.ensures
