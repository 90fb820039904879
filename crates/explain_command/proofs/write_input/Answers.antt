-- The row is read, and the text is that for it.
use Rattle.std.specs.Prelude.{Some}
use mathlib.Core.Path.{refl, ap}
use Rattle.explain_command.proofs.write_input.Goals as goal

pub returns-in_err-r : goal.returns-in_err-r
returns-in_err-r c = record {
  value = rw (← c.read.ensures, c.in_err-r.was, c.from_residual.ensures) refl;
  out_after = rw (← c.read.ensures, c.in_err-r.was) refl;
}

pub returns : goal.returns
returns c =
    let t = c.write_parts.ensures in
    record {
      value = rw (← c.read.ensures, c.in_ok-r.was) (ap Some t.value);
      out_after = rw (← c.read.ensures, c.in_ok-r.was) (rw t.value at t.out_after);
    }
