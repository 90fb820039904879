-- Files that are turned back are answered with their refusal; in a table that was read the row is explained.
use Rattle.table_checks.specs.Columns.{field, identifier_column}
use Rattle.frame_table.specs.Text.{fields_of}
use Rattle.certifier.specs.ExplainEntry.{explain_file, explain_read}
use Rattle.explain_command.specs.Command.{text_for}
use Rattle.explain_command.specs.Laws.Text.{text-turned}
use Rattle.explain_command.proofs.write_files.Goals as goal

pub returns-in-Err : goal.returns-in-Err
unfolding text_for explain_file explain_read
returns-in-Err c =
    let e = c.write_refusal.ensures in
    let turned = text-turned (field (fields_of c.args.table.now) c.args.row identifier_column) c.from.result in
    record {
      value = rw (c.in-Err.ensures, ← c.from.ensures, turned) e.value;
      out_after = rw (c.in-Err.ensures, ← c.from.ensures, turned) e.out_after;
    }

pub returns-in-Ok : goal.returns-in-Ok
unfolding text_for explain_file explain_read
returns-in-Ok c =
    let (passed, lengths, rows) = c.in-Ok.ensures in
    record {
      value = rw (passed, ← lengths, ← rows) c.write_row.ensures.value;
      out_after = rw (passed, ← lengths, ← rows) c.write_row.ensures.out_after;
    }
