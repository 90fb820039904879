-- `frame_length::run_with` meets its contract.
use native.Mathlib.Omega.{arith}
use Rattle.frame_length.proofs.run_with.Goals as goal

pub returns-then-b-last : goal.returns-then-b-last
returns-then-b-last c = record { value = rw c.if-b-last.true; upper_bound = omega arith }

pub returns-else-b-last : goal.returns-else-b-last
returns-else-b-last c = record { value = rw c.if-b-last.false; upper_bound = omega arith }
