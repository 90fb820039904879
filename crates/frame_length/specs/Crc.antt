-- The CRC of 15 bits (ISO 11898-1, "CRC field"), as the shift register that it gives.
use Rattle.std.specs.Prelude.{ℕ, ◌*◌, ◌%◌, ◌^◌, Bool, cond, List, [], ◌∷◌}
use Rattle.std.specs.Bool.{xor}
use Rattle.std.specs.Int.Bits.{bit_xor}
use Rattle.frame_length.specs.DataFrame.{bit}

-- one bit more: the register is shifted by one place to the left, and where the bit that leaves it
-- is not the next bit, the polynomial is added to it
unfoldable pub crc_step : ℕ → Bool → ℕ
crc_step crc next = cond (xor next (bit crc 14)) (bit_xor (crc % 2 ^ 14 * 2) 0x4599) (crc % 2 ^ 14 * 2)

unfoldable pub crc_from : ℕ → List Bool → ℕ
crc_from crc [] = crc
crc_from crc (b ∷ bs) = crc_from (crc_step crc b) bs

-- of a frame's bits: initial value 0
unfoldable pub crc_of : List Bool → ℕ
crc_of bs = crc_from 0 bs
