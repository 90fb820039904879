-- What one step of the code hands to the next.
use Rattle.std.specs.Prelude.{ℕ, ◌≡◌, ◌≤◌, List, length, take}
use Rattle.std.specs.declared.option.Option.{Option}
use Rattle.std.specs.Io.KnownBytes.{Consumes, IsAtEnd}
use Rattle.console.specs.declared.Stream.{Stream}
use Rattle.console.specs.declared.Stream.TheVariants.{Whole, Longer, Unreadable}

-- the whole of standard input is within a buffer of so many bytes
abbrev pub Within : Stream → ℕ → Type 0
Within (Whole n) size = n ≤ size
Within (Longer n) size = Unit {0}
Within Unreadable size = Unit {0}

-- what was read of a stream is
abbrev pub Held : Stream → ℕ → Type 0
Held (Whole n) size = n ≤ size
Held (Longer n) size = n ≤ size
Held Unreadable size = Unit {0}

-- a stream whose bytes are known has lost those that now stand at a buffer's start; a whole one has none left
abbrev pub TakesStart : Stream → Option (List ℕ) → Option (List ℕ) → List ℕ → Type 0
TakesStart (Whole n) old new buffer = Consumes old new (take n buffer) × IsAtEnd new
TakesStart (Longer n) old new buffer = Consumes old new (take n buffer)
TakesStart Unreadable old new buffer = Unit {0}

-- a buffer has n bytes, and n are at its start
abbrev pub IsPrefixLen : ℕ → List ℕ → Type 0
IsPrefixLen n buffer = (n ≤ length buffer) × (n ≡ length (take n buffer))
