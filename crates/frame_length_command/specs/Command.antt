-- The command frame-length: its arguments, and the line that it prints (document 02, request 8).
use Rattle.std.specs.Prelude.{ℕ, ◌+◌, ◌-◌, ◌*◌, ◌/◌, ◌%◌, Bool, true, false, cond, not, ◌&&◌, List, [], ◌∷◌, ◌++◌, map, leb, eqb, length, get_or, Option, Some, None, Result, Ok}
use Rattle.table_checks.specs.declared.Refusal.{Refusal}
use Rattle.arith.specs.Lists.{exists, range}
use Rattle.decimal.specs.Decimal.{read_column, write_column}
use Rattle.table_checks.specs.Columns.{between}
use Rattle.frame_table.specs.Table.{answer_for}
use Rattle.frame_length.specs.FrameLength.{FrameReturned, frame_returns}
use Rattle.certifier.specs.Listing.{refusal_line}

-- ---- KIND and IDENTIFIER: a number each, in the notation of a table's column

abbrev pub is_number : Option ℕ → Bool
is_number (Some n) = true
is_number None = false

-- 0 where there is none
abbrev pub number_in : Option ℕ → ℕ
number_in (Some n) = n
number_in None = 0

-- ---- HEX: two hexadecimal digits for each payload byte, or a dash for none

-- the value of a digit, 16 of any other character
unfoldable pub hex_value : ℕ → ℕ
hex_value b = cond (between 48 57 b) (b - 48) (cond (between 65 70 b) (b - 55) (cond (between 97 102 b) (b - 87) 16))

-- whether every character is a digit
unfoldable pub is_hex : List ℕ → Bool
is_hex s = not (exists (λ b. leb 16 (hex_value b)) s)

unfoldable pub is_payload : List ℕ → Bool
is_payload s = cond (eqb (length s) 1) (eqb (get_or s 0 0) 45) (not (eqb (length s) 0) && (eqb (length s % 2) 0 && is_hex s))

-- byte i, which counts from 0
unfoldable pub byte_at : List ℕ → ℕ → ℕ
byte_at s i = 16 * hex_value (get_or s (2 * i) 0) + hex_value (get_or s (2 * i + 1) 0)

unfoldable pub payload_of : List ℕ → List ℕ
payload_of s = map (byte_at s) (range 0 (length s / 2))

-- ---- the line

-- a length (4)
unfoldable pub length_line : ℕ → List ℕ
length_line ticks = write_column 4 ticks ++ (10 ∷ [])

-- or number and place of a refusal
unfoldable pub line_of : FrameReturned → List ℕ
line_of r = cond (eqb r.number 0) (length_line r.ticks) (refusal_line r.number r.place)

-- ---- the answer

-- whether each argument is in its notation
unfoldable pub is_asked : List ℕ → List ℕ → List ℕ → Bool
is_asked kind identifier hex = is_number (read_column kind) && (is_number (read_column identifier) && is_payload hex)

-- the line for the frame that they name
unfoldable pub line_for : List ℕ → List ℕ → List ℕ → List ℕ
line_for kind identifier hex = line_of (frame_returns (number_in (read_column kind)) (number_in (read_column identifier)) (payload_of hex))

-- the answer where it is to be written into the area `old`
unfoldable pub reply_for : List ℕ → List ℕ → List ℕ → List ℕ → Option (Result ℕ Refusal)
reply_for kind identifier hex old =
    cond (is_asked kind identifier hex) (Some (answer_for (Ok tt) (line_for kind identifier hex) old)) None
