-- `frame_length::crc_step` meets its contract: the test is whether the bit that leaves the register is the next one.
use mathlib.Core.Path.{◌≡◌}
use mathlib.Core.Bool.{true, false, xor}
use Rattle.frame_length.specs.DataFrame.{bit}
use Rattle.frame_length.specs.Crc.{crc_step}
use Rattle.frame_length.proofs.crc_step.Goals as goal

pub returns-then-next-bit_of : goal.returns-then-next-bit_of
unfolding crc_step xor
returns-then-next-bit_of c =
    let a = c.args in
    let e : xor a.next (bit a.crc 14) ≡ true = rw c.bit_of.ensures at c.if-next-bit_of.true in
    rw e

pub returns-else-next-bit_of : goal.returns-else-next-bit_of
unfolding crc_step xor
returns-else-next-bit_of c =
    let a = c.args in
    let e : xor a.next (bit a.crc 14) ≡ false = rw c.bit_of.ensures at c.if-next-bit_of.false in
    rw e
