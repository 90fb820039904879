-- `frame_length::send_bit` meets its contract.
use borrow.Author.Tests.{eq-eqb, ne_eqb}
use native.Mathlib.Omega.{arith}
use Rattle.frame_length.specs.Steps.{send_bit}
use Rattle.frame_length.proofs.send_bit.Goals as goal

pub returns-then-run-eq5 : goal.returns-then-run-eq5
unfolding send_bit
returns-then-run-eq5 c =
    record { value = rw (← c.run_with-run.ensures.value, eq-eqb _ _ c.if-run-eq5.true, ← c.crc_step-crc.ensures); within = omega arith }

pub returns-else-run-eq5 : goal.returns-else-run-eq5
unfolding send_bit
returns-else-run-eq5 c =
    record { value = rw (← c.run_with-run.ensures.value, ne_eqb _ _ c.if-run-eq5.false, ← c.crc_step-crc.ensures); within = omega arith }
