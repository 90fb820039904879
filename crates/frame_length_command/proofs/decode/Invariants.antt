-- `frame_length_command::decode` meets its contract: after i turns the first i bytes of the payload stand over the first i bytes.
use Prim.Native.Nat.{◌-◌, ◌/◌, ◌≤◌}
use mathlib.Core.Path.{◌≡◌}
use lib.ListN.{length}
use Rattle.arith.specs.Laws.Overwriting.{over}
use Rattle.frame_length_command.specs.Command.{payload_of}
use Rattle.frame_length_command.proofs.decode.Given as goal

abbrev pub invariant-loop-i : goal.invariant-loop-i
invariant-loop-i l = (l.bytes ≡ over (payload_of l.hex) l.i l.initial.bytes) × (length l.bytes ≡ length l.initial.bytes)
