-- The gap is read; a listing under it stands in the area already, and a refusal is written as such.
use Prim.Native.Nat.{ℕ}
use mathlib.Core.List.{List}
use mathlib.Core.Path.{refl, ap}
use Rattle.std.specs.Prelude.{Some}
use Rattle.lengths_file.proofs.Laws.Input.{second-part}
use Rattle.certifier.proofs.Laws.Input.{first-end}
use Rattle.faults_command.proofs.write_input.Goals as goal

pub returns-in-Ok : goal.returns-in-Ok
returns-in-Ok c =
    let xs : List ℕ = c.args.input.now in
    let end = c.lengths_end-end.ensures in
    let l = c.list_faults.ensures in
    record {
      value = rw (← c.read.ensures, c.in_ok-gap.was, ← first-end xs _ end, ← second-part xs _ end, ← l.value, c.in-Ok.is) refl;
      out_after = rw (← c.read.ensures, c.in_ok-gap.was, ← first-end xs _ end, ← second-part xs _ end, ← l.value, c.in-Ok.is) l.out_after;
    }

pub returns-in-Err : goal.returns-in-Err
returns-in-Err c =
    let xs : List ℕ = c.args.input.now in
    let end = c.lengths_end-end.ensures in
    let l = c.list_faults.ensures in
    let e = c.write_refusal-written.ensures in
    record {
      value = rw (← c.read.ensures, c.in_ok-gap.was, ← first-end xs _ end, ← second-part xs _ end, ← l.value, ← l.out_after, c.in-Err.is) (ap Some e.value);
      out_after = rw (← c.read.ensures, c.in_ok-gap.was, ← first-end xs _ end, ← second-part xs _ end, ← l.value, ← l.out_after, c.in-Err.is) (rw e.value at e.out_after);
    }
