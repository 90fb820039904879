-- `decimal::value` meets its contract: a column that is all spaces, or broken, holds no number.
use mathlib.Core.Path.{sym, ap}
use Rattle.decimal.specs.Decimal.{value_of}
use Rattle.decimal.proofs.value.Goals as goal

pub returns-in-Number : goal.returns-in-Number
returns-in-Number c = ap value_of (sym c.in-Number.is)
