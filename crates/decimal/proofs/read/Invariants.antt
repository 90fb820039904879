-- `decimal::read` meets its contract. The loop's invariant: extending the prefix by the rest of the column gives what
-- extending the blank prefix by the whole column gives.
use mathlib.Core.Path.{◌≡◌}
use lib.ListN.{drop}
use Rattle.decimal.specs.declared.Prefix.TheVariants.{Blank}
use Rattle.decimal.specs.Decimal.{extended_by}
use Rattle.decimal.proofs.read.Given as goal

abbrev pub invariant-loop-byte : goal.invariant-loop-byte
invariant-loop-byte l = extended_by l.p (drop l.byte-index l.s) ≡ extended_by Blank l.s
