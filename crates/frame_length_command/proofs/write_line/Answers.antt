-- `frame_length_command::write_line` meets its contract: each argument is read, and the line is that of the frame that they name.
use mathlib.Core.Path.{refl, sym, ◌∙◌}
use Rattle.frame_length_command.specs.Command.{is_asked, line_for, reply_for}
use Rattle.frame_length_command.specs.Laws.Digits.{payload-digits}
use Rattle.frame_length_command.proofs.write_line.Goals as goal

pub returns-in_err-k : goal.returns-in_err-k
unfolding reply_for is_asked
returns-in_err-k c = rw c.from_residual.ensures (record { value = rw (← c.in_err-k.ensures); out_after = refl })

pub returns-in_err-i : goal.returns-in_err-i
unfolding reply_for is_asked
returns-in_err-i c =
    rw c.from_residual-in_err-i.ensures (record { value = rw (← c.in_ok-k.ensures, ← c.in_err-i.ensures); out_after = refl })

pub measure_hex-requires : goal.measure_hex-requires
measure_hex-requires c = payload-digits _ (sym c.is_payload.ensures ∙ c.if-is_payload.true)

pub returns-then-is_payload : goal.returns-then-is_payload
unfolding reply_for is_asked line_for
returns-then-is_payload c =
    let value = rw c.measure_hex.ensures at c.write_measured.ensures.value in
    let after = rw c.measure_hex.ensures at c.write_measured.ensures.out_after in
    record {
      value = rw (
        ← c.in_ok-k.ensures,
        ← c.in_ok-i.ensures,
        ← c.is_payload.ensures,
        c.if-is_payload.true,
      ) (rw value);
      out_after = rw (← c.in_ok-k.ensures, ← c.in_ok-i.ensures) after;
    }

pub returns-else-is_payload : goal.returns-else-is_payload
unfolding reply_for is_asked
returns-else-is_payload c =
    record {
      value = rw (
        ← c.in_ok-k.ensures,
        ← c.in_ok-i.ensures,
        ← c.is_payload.ensures,
        c.if-is_payload.false,
      );
      out_after = refl;
    }
