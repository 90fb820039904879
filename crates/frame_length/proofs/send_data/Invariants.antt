-- `frame_length::send_data` meets its contract. The loop's invariant: sending the bytes that are left gives what sending
-- all of them from the start gives.
use Prim.Native.Nat.{◌+◌, ◌*◌, ◌≤◌}
use mathlib.Core.Path.{◌≡◌}
use lib.ListN.{drop}
use Rattle.frame_length.specs.DataFrame.{data_field}
use Rattle.frame_length.specs.Steps.{send_all}
use Rattle.frame_length.proofs.send_data.Given as goal

abbrev pub invariant-loop-byte : goal.invariant-loop-byte
invariant-loop-byte l =
    (send_all l.s (data_field (drop l.byte-index l.payload)) ≡ send_all l.initial.s (data_field l.payload))
    × (l.s.run ≤ 4)
    × (l.s.length ≤ l.initial.s.length + 16 * l.byte-index)
