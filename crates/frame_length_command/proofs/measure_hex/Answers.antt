-- `frame_length_command::measure_hex` meets its contract: what is measured is the payload that the digits give.
use mathlib.Core.Path.{sym, ap, ◌∙◌}
use mathlib.Core.List.{List}
use Prim.Native.Nat.{ℕ, ◌/◌}
use native.Mathlib.Omega.{arith}
use lib.ListN.{length, take, length-take}
use lib.Seq.{take_at}
use Rattle.frame_length.specs.FrameLength.{frame_returns}
use Rattle.frame_length.proofs.Laws.Lengths.{refused-long}
use Rattle.frame_length_command.specs.Command.{payload_of}
use Rattle.frame_length_command.specs.Laws.Digits.{length-payload}
use Rattle.frame_length_command.proofs.measure_hex.Goals as goal

pub returns-then-n-gt-MOST_BYTES : goal.returns-then-n-gt-MOST_BYTES
returns-then-n-gt-MOST_BYTES c =
    let a = c.args in
    sym (refused-long a.kind a.identifier (payload_of a.hex.now) (omega (arith, length-payload a.hex.now)))

pub slice_bounds-measure-end : goal.slice_bounds-measure-end
slice_bounds-measure-end c = simp length-take (omega arith)

pub returns : goal.returns
returns c =
    let a = c.args in
    let hex : List ℕ = a.hex.now in
    c.measure.ensures
    ∙ ap (frame_returns a.kind a.identifier)
    (ap (take (length hex / 2)) c.decode.ensures ∙ take_at (payload_of hex) _ (length hex / 2) (length-payload hex))
