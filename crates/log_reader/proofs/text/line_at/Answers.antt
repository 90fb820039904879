-- `log_reader::text::line_at` meets its contract.
use Rattle.log_reader.specs.Text.{line_at}
use Rattle.log_reader.proofs.text.line_at.Goals as goal

pub returns : goal.returns
unfolding line_at
returns c = rw (c.number_at.ensures, c.number_at-2.ensures, c.number_at-3.ensures, c.number_at-4.ensures, c.number_at-5.ensures)
