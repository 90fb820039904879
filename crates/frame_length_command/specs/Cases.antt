-- Payloads and lines by example, by computation.
use Rattle.std.specs.Prelude.{◌≡◌, refl, true, false, [], ◌∷◌}
use Rattle.arith.specs.Lists.{exists, range}
use Rattle.decimal.specs.Decimal.{write_column}
use Rattle.table_checks.specs.Columns.{between}
use Rattle.certifier.specs.Listing.{refusal_line}
use Rattle.frame_length_command.specs.Command.{hex_value, is_hex, is_payload, byte_at, payload_of, length_line, line_of}

-- "1aFf"
digits : payload_of (49 ∷ 97 ∷ 70 ∷ 102 ∷ []) ≡ 0x1a ∷ 0xff ∷ []
unfolding payload_of byte_at hex_value between range
digits = refl

-- "-"
dash : is_payload (45 ∷ []) ≡ true
unfolding is_payload
dash = refl

no_bytes : payload_of (45 ∷ []) ≡ []
unfolding payload_of range
no_bytes = refl

nothing : is_payload [] ≡ false
unfolding is_payload
nothing = refl

-- "1a2"
odd : is_payload (49 ∷ 97 ∷ 50 ∷ []) ≡ false
unfolding is_payload
odd = refl

-- "1g"
no_digit : is_payload (49 ∷ 103 ∷ []) ≡ false
unfolding is_payload is_hex exists hex_value between
no_digit = refl

-- "  53"
length-53 : line_of (record { number = 0; place = 0; ticks = 53 }) ≡ 32 ∷ 32 ∷ 53 ∷ 51 ∷ 10 ∷ []
unfolding line_of length_line write_column
length-53 = refl

-- " 16     0"
refusal : line_of (record { number = 16; place = 0; ticks = 0 }) ≡ 32 ∷ 49 ∷ 54 ∷ 32 ∷ 32 ∷ 32 ∷ 32 ∷ 32 ∷ 48 ∷ 10 ∷ []
unfolding line_of refusal_line write_column
refusal = refl
