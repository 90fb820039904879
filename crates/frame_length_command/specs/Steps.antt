-- What one step of the code hands to the next.
use Rattle.std.specs.Prelude.{ℕ, ◌*◌, ◌/◌, ◌<◌, List, length, get_or}
use Rattle.frame_length_command.specs.Command.{hex_value}

-- the characters of every byte are digits
unfoldable pub Digits : List ℕ → Type 0
Digits s = (i : ℕ) → i < 2 * (length s / 2) → hex_value (get_or s i 0) < 16
