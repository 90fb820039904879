-- The claim of the row, by the bound that decides about it.
use Prim.Native.Nat.{◌+◌, ◌*◌, ◌≤◌, ◌<◌}
use mathlib.Core.Path.{ap, ◌∙◌}
use native.Mathlib.Omega.{arith}
use lib.ListN.{length}
use Rattle.table_checks.specs.Columns.{columns, most_numbers, claim_column}
use Rattle.row_judgement.specs.Judge.{claim_of}
use Rattle.row_judgement.specs.Decide.{judged_by}
use Rattle.row_judgement.specs.Laws.Judged.{claim-inside, decided-judge}
use Rattle.row_judgement.proofs.judgement.judge_row.Goals as goal
use Rattle.row_judgement.proofs.judgement.judge_row.Goals.{Start}

place : (c : Start) → (columns * c.args.i + claim_column < length c.args.table.now.rows.now) × (length c.args.table.now.rows.now ≤ most_numbers)
place c = claim-inside c.args.table.now.lengths c.args.table.now.rows.now c.args.table.now.accepted.1 c.requires.i_in_bounds

pub overflow_mul-claim : goal.overflow_mul-claim
overflow_mul-claim c = record { fits = omega (arith, place (goal.at.overflow_mul-claim c).Start) }

pub overflow_add-claim : goal.overflow_add-claim
overflow_add-claim c = record { fits = omega (arith, place (goal.at.overflow_add-claim c).Start) }

pub offset_bounds-table-i : goal.offset_bounds-table-i
offset_bounds-table-i c = record { fits = omega (arith, place (goal.at.offset_bounds-table-i c).Start) }

pub bounds-table-i : goal.bounds-table-i
bounds-table-i c = omega (arith, place (goal.at.bounds-table-i c).Start)

pub returns : goal.returns
returns c = let claim = claim_of c.args.table.now.rows.now c.args.i in c.judged_by.ensures ∙ ap (judged_by claim) c.decide.ensures ∙ decided-judge _ _ _ claim
