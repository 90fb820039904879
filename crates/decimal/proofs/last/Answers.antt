-- `decimal::last` meets its contract: the last character of a number is its last digit.
use mathlib.Core.Path.{sym, ap}
use Rattle.decimal.specs.Decimal.{last_of}
use Rattle.decimal.proofs.last.Goals as goal

pub returns-in-Number : goal.returns-in-Number
returns-in-Number c = ap last_of (sym c.in-Number.is)

pub returns-in-Negative : goal.returns-in-Negative
returns-in-Negative c = ap last_of (sym c.in-Negative.is)
