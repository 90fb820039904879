-- By the number of digits.
use native.Mathlib.Omega.{arith}
use borrow.Author.Tests.{lt-ltb, le-ltb}
use Rattle.explain_command.specs.Command.{instance_width}
use Rattle.explain_command.proofs.instance_width.Goals as goal

pub returns-then-q-lt1000 : goal.returns-then-q-lt1000
unfolding instance_width
returns-then-q-lt1000 c = record { value = rw (lt-ltb _ _ c.if-q-lt1000.true); small = omega arith }

pub returns-else-q-lt1000 : goal.returns-else-q-lt1000
unfolding instance_width
returns-else-q-lt1000 c = record { value = rw (le-ltb _ _ c.if-q-lt1000.false); small = omega arith }
