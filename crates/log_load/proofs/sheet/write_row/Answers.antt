-- `log_load::sheet::write_row` meets its contract.
use mathlib.Core.Path.{ap, ◌∙◌}
use Rattle.log_load.specs.Sheet.{row_line, line_of}
use Rattle.log_load.proofs.sheet.write_row.Goals as goal

pub returns : goal.returns
unfolding line_of
returns c = c.write_line.ensures ∙ ap (row_line _) c.seen_of-seen.ensures
