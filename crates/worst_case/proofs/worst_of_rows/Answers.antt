-- The last row, judged, with its worst case.
use Rattle.workload.proofs.Laws.Groups.{fine-never}
use Rattle.worst_case.specs.Answer.{judged_last}
use Rattle.worst_case.proofs.worst_of_rows.Goals as goal

pub judge_row-requires : goal.judge_row-requires
judge_row-requires c = record { i_in_bounds = c.last_row-i.ensures.listed; fine_faults = fine-never }

pub worst_row-requires : goal.worst_row-requires
worst_row-requires c = c.last_row-i.ensures.listed

pub returns : goal.returns
unfolding judged_last
returns c = rw (c.judge_row.ensures, c.worst_row.ensures, c.last_row-i.ensures.value)
