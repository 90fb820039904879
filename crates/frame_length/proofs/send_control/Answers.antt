-- `frame_length::send_control` meets its contract.
use native.Mathlib.Omega.{arith}
use Rattle.frame_length.specs.DataFrame.{control}
use Rattle.frame_length.specs.Steps.{send_all}
use Rattle.frame_length.proofs.send_control.Goals as goal

pub returns : goal.returns
unfolding control send_all
returns c = record { value = rw (c.send_bit-second.ensures.value, c.send_bit-first.ensures.value) at c.send_bits.ensures.value; within = omega arith }
