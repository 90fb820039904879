-- Stuffing, the CRC and lengths by example, by computation.
use Rattle.std.specs.Prelude.{◌≡◌, refl, true, false, ℕ}
use Rattle.std.proofs.Math.Bool.{xor}
use mathlib.Core.List.{List, [], ◌∷◌, flat_map}
use Rattle.table_checks.specs.Columns.{is_identifier}
use Rattle.frame_length.specs.DataFrame.{bits, base_arbitration, extended_arbitration, arbitration, control, data_field, before_crc}
use Rattle.frame_length.specs.Crc.{crc_step, crc_from, crc_of}
use Rattle.frame_length.specs.Stuffing.{stuff_from, stuff}
use Rattle.frame_length.specs.FrameLength.{with_crc, stuffed_part, frame_length, is_data_frame, FrameReturned, frame_returns}

-- a stuff bit begins the next run: with it, four equal bits make five
stuffed-twice : stuff (false ∷ false ∷ false ∷ false ∷ false ∷ true ∷ true ∷ true ∷ true ∷ [])
    ≡ false ∷ false ∷ false ∷ false ∷ false ∷ true ∷ true ∷ true ∷ true ∷ true ∷ false ∷ []
unfolding stuff stuff_from
stuffed-twice = refl

-- the check value of this CRC in the catalogues: of the bytes of "123456789"
check-value : crc_of (data_field (49 ∷ 50 ∷ 51 ∷ 52 ∷ 53 ∷ 54 ∷ 55 ∷ 56 ∷ 57 ∷ [])) ≡ 0x059e
unfolding crc_of crc_from crc_step xor data_field flat_map bits
check-value = refl

-- ---- whole frames

computed : ℕ → ℕ → List ℕ → FrameReturned
unfolding is_identifier bits base_arbitration extended_arbitration arbitration control flat_map data_field before_crc xor crc_step crc_from crc_of stuff_from stuff with_crc stuffed_part frame_length is_data_frame frame_returns
computed kind identifier payload = frame_returns kind identifier payload

abbrev ticks : ℕ → FrameReturned
ticks n = record { number = 0; place = 0; ticks = n }

abbrev refused : FrameReturned
refused = record { number = 16; place = 0; ticks = 0 }

-- its CRC is 0: 34 zeros, and a stuff bit after each five of them
zeros : computed 11 0 [] ≡ ticks 53
unfolding computed
zeros = refl

-- the CRC ends in five equal bits, and a stuff bit follows it
stuffed-last : computed 11 9 [] ≡ ticks 52
unfolding computed
stuffed-last = refl

-- SAE J1939's EEC1, engine speed 621 r/min
engine-speed : computed 29 0x0cf0_0400 (255 ∷ 255 ∷ 255 ∷ 0x68 ∷ 0x13 ∷ 255 ∷ 255 ∷ 255 ∷ []) ≡ ticks 145
unfolding computed
engine-speed = refl

ones : computed 29 536_870_911 (255 ∷ 255 ∷ 255 ∷ 255 ∷ 255 ∷ 255 ∷ 255 ∷ 255 ∷ []) ≡ ticks 149
unfolding computed
ones = refl

nine-bytes : computed 11 0 (0 ∷ 0 ∷ 0 ∷ 0 ∷ 0 ∷ 0 ∷ 0 ∷ 0 ∷ 0 ∷ []) ≡ refused
unfolding computed
nine-bytes = refl

identifier-2048 : computed 11 2048 [] ≡ refused
unfolding computed
identifier-2048 = refl

kind-12 : computed 12 0 [] ≡ refused
unfolding computed
kind-12 = refl
