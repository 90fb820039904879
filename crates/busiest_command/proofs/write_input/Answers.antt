-- `busiest_command::write_input` meets its contract: the width is read, and the text is that for it.
use Rattle.std.specs.Prelude.{Some}
use mathlib.Core.Path.{refl, ap}
use Rattle.busiest_command.proofs.write_input.Goals as goal

pub returns-in_err-w : goal.returns-in_err-w
returns-in_err-w c = record {
  value = rw (← c.read.ensures, c.in_err-w.was, c.from_residual.ensures) refl;
  out_after = rw (← c.read.ensures, c.in_err-w.was) refl;
}

pub returns : goal.returns
returns c =
    let t = c.write_text.ensures in
    record {
      value = rw (← c.read.ensures, c.in_ok-w.was) (ap Some t.value);
      out_after = rw (← c.read.ensures, c.in_ok-w.was) (rw t.value at t.out_after);
    }
