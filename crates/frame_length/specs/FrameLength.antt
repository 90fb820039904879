-- The exact length of a data frame on the wire (document 02, request 8).
use Rattle.std.specs.Prelude.{ℕ, ◌+◌, Bool, cond, ◌&&◌, List, ◌++◌, leb, length, Option, Some, None}
use Rattle.table_checks.specs.Columns.{is_identifier}
use Rattle.frame_length.specs.DataFrame.{bits, before_crc}
use Rattle.frame_length.specs.Crc.{crc_of}
use Rattle.frame_length.specs.Stuffing.{stuff}

-- bits followed by their CRC
unfoldable pub with_crc : List Bool → List Bool
with_crc bs = bs ++ bits 15 (crc_of bs)

-- "the stuffed part from start bit through the 15-bit CRC"
unfoldable pub stuffed_part : ℕ → ℕ → List ℕ → List Bool
stuffed_part kind identifier payload = stuff (with_crc (before_crc kind identifier payload))

-- "then 13 bits more": CRC delimiter, ACK slot, ACK delimiter, 7 bits of end of frame, 3 bits of space
unfoldable pub frame_length : ℕ → ℕ → List ℕ → ℕ
frame_length kind identifier payload = length (stuffed_part kind identifier payload) + 13

-- whether "kind, identifier [and] payload length" are within their limits
unfoldable pub is_data_frame : ℕ → ℕ → List ℕ → Bool
is_data_frame kind identifier payload = is_identifier kind identifier && leb (length payload) 8

-- ---- the answer

-- number and place of a refusal, 0 and 0 where there is none; and the length in ticks, 0 where there is none
pub record FrameReturned : Type 0 where
  pub number : ℕ
  pub place : ℕ
  pub ticks : ℕ

-- of a frame: 16 "before all else"
unfoldable pub frame_returns : ℕ → ℕ → List ℕ → FrameReturned
frame_returns kind identifier payload =
    cond (is_data_frame kind identifier payload)
    (record { number = 0; place = 0; ticks = frame_length kind identifier payload })
    (record { number = 16; place = 0; ticks = 0 })

-- of each answer
unfoldable pub measured_returns : Option ℕ → FrameReturned
measured_returns (Some n) = record { number = 0; place = 0; ticks = n }
measured_returns None = record { number = 16; place = 0; ticks = 0 }
