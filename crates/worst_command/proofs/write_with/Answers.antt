-- By what is shown.
use Rattle.bus_model.specs.declared.Faults.TheVariants.{Never}
use Rattle.certifier.specs.Listing.{line_of}
use Rattle.worst_command.specs.Laws.Text.{text-none, text-shown}
use Rattle.worst_command.proofs.write_with.Goals as goal

pub returns-in-None : goal.returns-in-None
returns-in-None c =
    let a = c.args in
    let table = a.table.now in
    record {
      value = rw (text-none a.worst (line_of Never table.lengths table.rows.now a.i) c.in-None.is) c.write_line.ensures.value;
      out_after = rw (text-none a.worst (line_of Never table.lengths table.rows.now a.i) c.in-None.is) c.write_line.ensures.out_after;
    }

pub returns-in-Some : goal.returns-in-Some
returns-in-Some c =
    let a = c.args in
    let table = a.table.now in
    record {
      value = rw (text-shown a.worst (line_of Never table.lengths table.rows.now a.i) _ c.in-Some.is) c.write_lines_of.ensures.value;
      out_after = rw (text-shown a.worst (line_of Never table.lengths table.rows.now a.i) _ c.in-Some.is) c.write_lines_of.ensures.out_after;
    }
