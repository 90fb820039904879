-- What computing an example unfolds, in one name: a proof that says `unfolding everything` sees through the checks, the frames,
-- the bounds and the judgement.
use Rattle.std.specs.Prelude.{ℕ}
use Rattle.bus_model.proofs.Examples.Compute.{everything as model}
use Rattle.table_checks.specs.Columns.{between, is_length, is_identifier}
use Rattle.table_checks.specs.Frames.{priority_of, largest_length, frame_at, frames_of}
use Rattle.table_checks.specs.Refusal.{number_of, check_returns}
use Rattle.table_checks.specs.Checks.{first_of, is_outside, breaks_limits, lengths_check, rows_size_check, column_check, columns_check, is_same_frame, stands_earlier, is_other_group, has_second_group, line_check, lines_check, group_check, groups_check, table_check, rows_check, loaded_check}

-- its value is of no use
unfoldable pub everything : ℕ
unfolding model between is_length is_identifier priority_of largest_length frame_at frames_of number_of check_returns first_of is_outside breaks_limits lengths_check rows_size_check column_check columns_check is_same_frame stands_earlier is_other_group has_second_group line_check lines_check group_check groups_check table_check rows_check loaded_check
everything = 0
