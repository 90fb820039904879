-- `decimal::write` meets its contract: a column is a number's prefix, written.
use Rattle.decimal.specs.Decimal.{write_column}
use Rattle.decimal.proofs.write.Goals as goal

pub returns : goal.returns
unfolding write_column
returns c = c.write_prefix.ensures
