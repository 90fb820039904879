-- The last row, and what is shown of it.
use Rattle.table_checks.proofs.Laws.Accepted.{length-frames}
use Rattle.worst_command.specs.Command.{text_of}
use Rattle.worst_command.proofs.write_last.Goals as goal

pub worst_row-requires : goal.worst_row-requires
worst_row-requires c = c.last_row-i.ensures.listed

pub write_with-requires : goal.write_with-requires
write_with-requires c = rw (length-frames c.args.table.now.lengths c.args.table.now.rows.now) at c.last_row-i.ensures.listed

pub returns : goal.returns
unfolding text_of
returns c = record {
  value = rw (← c.last_row-i.ensures.value, ← c.worst_row.ensures) c.write_with.ensures.value;
  out_after = rw (← c.last_row-i.ensures.value, ← c.worst_row.ensures) c.write_with.ensures.out_after;
}
