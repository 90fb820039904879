-- `frame_length::measure` meets its contract: the limits first, then the bits and their CRC.
use Rattle.std.specs.Prelude.{None}
use mathlib.Core.List.{List}
use Prim.Native.Nat.{ℕ, ◌+◌}
use mathlib.Core.Bool.{true, false}
use mathlib.Core.Path.{◌≡◌, ap, sym, ◌∙◌}
use borrow.Author.Tests.{le-leb}
use Rattle.table_checks.specs.Columns.{is_identifier}
use Rattle.frame_length.specs.FrameLength.{stuffed_part, frame_length, is_data_frame, frame_returns, measured_returns}
use Rattle.frame_length.proofs.Laws.Lengths.{refused-long}
use Rattle.frame_length.proofs.Laws.Sending.{sent-whole}
use Rattle.frame_length.proofs.measure.Goals as goal
use Rattle.frame_length.proofs.measure.Goals.{then-payload-gt-MOST_BYTES-via-then-payload-gt-MOST_BYTES, then-payload-gt-MOST_BYTES-via-else-payload-gt-MOST_BYTES+then-not-is_identifier}

-- a frame whose identifier is outside its limits
unnamed : (kind identifier : ℕ) (payload : List ℕ) → is_identifier kind identifier ≡ false → measured_returns None ≡ frame_returns kind identifier payload
unfolding measured_returns frame_returns is_data_frame
unnamed kind identifier payload e = rw e

pub returns-then-payload-gt-MOST_BYTES : goal.returns-then-payload-gt-MOST_BYTES
returns-then-payload-gt-MOST_BYTES c =
    elim c.then-payload-gt-MOST_BYTES.branch [
      | then-payload-gt-MOST_BYTES-via-then-payload-gt-MOST_BYTES w ↦ sym (refused-long _ _ _ w.if-payload-gt-MOST_BYTES.true)
      | then-payload-gt-MOST_BYTES-via-else-payload-gt-MOST_BYTES+then-not-is_identifier w ↦
          unnamed c.args.kind c.args.identifier c.args.payload.now (sym w.is_identifier.ensures ∙ w.if-not-is_identifier.true)
    ]

pub returns : goal.returns
unfolding measured_returns frame_returns is_data_frame frame_length stuffed_part
returns c =
    let a = c.args in
    let named : is_identifier a.kind a.identifier ≡ true = sym c.is_identifier.ensures ∙ c.if-not-is_identifier.false in
    rw (named, le-leb _ _ c.if-payload-gt-MOST_BYTES.false)
    (ap (λ (n : ℕ). record { number = 0; place = 0; ticks = n + 13 }) (sent-whole _ _ _ c.send_before_crc-before.ensures.value c.send_bits-whole.ensures.value))
