-- The claim of the row, by the bound that decides about it; where its verdict is 3, the case is found with what is prepared and remembered.
use Rattle.std.specs.Prelude.{Ok}
use Prim.Native.Nat.{ℕ, ◌+◌, ◌*◌, ◌≤◌, ◌<◌}
use mathlib.Core.Path.{◌≡◌, refl, ap, ◌∙◌}
use mathlib.Core.List.{List}
use native.Mathlib.Omega.{arith}
use lib.ListN.{length}
use Rattle.bus_model.specs.Frame.{row}
use Rattle.bus_model.specs.Judgement.{judge, verdict}
use Rattle.bus_model.specs.declared.Faults.{Faults}
use Rattle.table_checks.specs.Columns.{columns, most_numbers, claim_column}
use Rattle.table_checks.specs.Frames.{frames_of}
use Rattle.row_judgement.specs.Judge.{claim_of}
use Rattle.row_judgement.specs.Explain.{beside}
use Rattle.row_judgement.specs.Laws.Judged.{claim-inside}
use Rattle.row_judgement.specs.Laws.Explain.{remembers-new, judged-row, small-has, small-beside, other-beside}
use Rattle.row_judgement.proofs.explanation.explain_row.Goals as goal
use Rattle.row_judgement.proofs.explanation.explain_row.Goals.{After-judged_by-judgement, After-pose_row-setting, Start, Then-is_small}

place : (c : Start) → (columns * c.args.i + claim_column < length c.args.table.now.rows.now) × (length c.args.table.now.rows.now ≤ most_numbers)
place c = claim-inside c.args.table.now.lengths c.args.table.now.rows.now c.args.table.now.accepted.1 c.requires.i_in_bounds

pub overflow_mul-claim : goal.overflow_mul-claim
overflow_mul-claim c = record { fits = omega (arith, place (goal.at.overflow_mul-claim c).Start) }

pub overflow_add-claim : goal.overflow_add-claim
overflow_add-claim c = record { fits = omega (arith, place (goal.at.overflow_add-claim c).Start) }

pub offset_bounds-table-i : goal.offset_bounds-table-i
offset_bounds-table-i c = record { fits = omega (arith, place (goal.at.offset_bounds-table-i c).Start) }

pub bounds-table-i : goal.bounds-table-i
bounds-table-i c = omega (arith, place (goal.at.bounds-table-i c).Start)

pub find-bound-requires : goal.find-bound-requires
find-bound-requires c = remembers-new c.pose_row-setting.result

-- the judgement is that of the row
judged : (c : After-judged_by-judgement) → let table = c.args.table.now in let fs = frames_of table.lengths table.rows.now in c.judged_by-judgement.result ≡ judge c.pose_row-setting.result.target.faults fs (row fs c.args.i) (claim_of table.rows.now c.args.i)
judged c =
    let table = c.args.table.now in
    let prepared = c.pose_row-setting in
    judged-row prepared.result.target.faults table.lengths table.rows.now c.args.i prepared.ensures.frames_value prepared.ensures.target.0 c.find-bound.ensures.value c.judged_by-judgement.ensures

-- its verdict is 3
small : (c : Then-is_small) → verdict c.judged_by-judgement.result.outcome ≡ 3
small c = omega (arith, c.verdict-is_small.ensures, c.if-is_small.true)

pub first_case-breaking-requires : goal.first_case-breaking-requires
first_case-breaking-requires c =
    let table = c.args.table.now in
    let prepared = c.pose_row-setting in
    record { remembered = c.find-bound.ensures.remembered; frame_value = small-has prepared.result.target.faults table.lengths table.rows.now c.args.i prepared.ensures.frames_value prepared.ensures.target.0 (judged (goal.at.first_case-breaking-requires c).After-judged_by-judgement) (small (goal.at.first_case-breaking-requires c).Then-is_small) }

-- under the premise that was given
given : (c : After-pose_row-setting) (ls : List (List ℕ)) (rows : List ℕ) (i : ℕ) → let fs = frames_of ls rows in let faults = c.pose_row-setting.result.target.faults in
    beside faults ls rows i (Ok (judge faults fs (row fs i) (claim_of rows i))) ≡ beside c.args.faults ls rows i (Ok (judge c.args.faults fs (row fs i) (claim_of rows i)))
given c ls rows i = ap (λ (faults : Faults). beside faults ls rows i (Ok (judge faults (frames_of ls rows) (row (frames_of ls rows) i) (claim_of rows i)))) c.pose_row-setting.ensures.target.1

pub returns-then-is_small : goal.returns-then-is_small
returns-then-is_small c =
    let table = c.args.table.now in
    small-beside c.pose_row-setting.result.target.faults table.lengths table.rows.now c.args.i c.pose_row-setting.ensures.frames_value c.pose_row-setting.ensures.target.0 (judged (goal.at.returns-then-is_small c).After-judged_by-judgement) (small (goal.at.returns-then-is_small c).Then-is_small) c.first_case-breaking.ensures
    ∙ given (goal.at.returns-then-is_small c).After-pose_row-setting table.lengths table.rows.now c.args.i

pub returns-else-is_small : goal.returns-else-is_small
returns-else-is_small c =
    let table = c.args.table.now in
    other-beside c.pose_row-setting.result.target.faults table.lengths table.rows.now c.args.i c.pose_row-setting.ensures.frames_value c.pose_row-setting.ensures.target.0 (judged (goal.at.returns-else-is_small c).After-judged_by-judgement) (λ is. omega (arith, c.verdict-is_small.ensures, c.if-is_small.false)) refl
    ∙ given (goal.at.returns-else-is_small c).After-pose_row-setting table.lengths table.rows.now c.args.i
