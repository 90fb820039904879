-- `frame_length::send_bits` meets its contract. The loop's invariant: sending the bits that are left gives what sending
-- all of them from the start gives.
use Prim.Native.Nat.{◌+◌, ◌*◌, ◌≤◌}
use mathlib.Core.Path.{◌≡◌}
use Rattle.frame_length.specs.DataFrame.{bits}
use Rattle.frame_length.specs.Steps.{send_all}
use Rattle.frame_length.proofs.send_bits.Given as goal

abbrev pub invariant-loop-j : goal.invariant-loop-j
invariant-loop-j l =
    (send_all l.s (bits l.j l.n) ≡ send_all l.initial.s (bits l.w l.n)) × (l.j ≤ l.w) × (l.s.run ≤ 4) × (l.s.length + 2 * l.j ≤ l.initial.s.length + 2 * l.w)
