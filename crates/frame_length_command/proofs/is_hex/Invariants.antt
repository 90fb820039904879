-- `frame_length_command::is_hex` meets its contract. The loop's invariant: the characters that are left decide.
use Prim.Native.Nat.{◌-◌, ◌≤◌}
use mathlib.Core.Path.{◌≡◌}
use lib.ListN.{length, drop}
use Rattle.frame_length_command.specs.Command.{is_hex}
use Rattle.frame_length_command.proofs.is_hex.Given as goal

abbrev pub invariant-loop-byte : goal.invariant-loop-byte
invariant-loop-byte l = is_hex (drop l.byte-index l.s) ≡ is_hex l.s
