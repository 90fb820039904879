-- `log_command::write_input` meets its contract: the two parts that are read are those of the input, and the numbers of the check are printed.
use Prim.Native.Nat.{ℕ}
use mathlib.Core.List.{List}
use Rattle.lengths_file.proofs.Laws.Input.{first_part, second-part}
use Rattle.log_command.specs.Laws.Lines.{text-accepted, text-refused}
use Rattle.log_command.proofs.write_input.Goals as goal

pub returns-in-Ok : goal.returns-in-Ok
returns-in-Ok c =
    let xs : List ℕ = c.args.input.now in
    let first = first_part xs _ c.lengths_end-end.ensures in
    let second = second-part xs _ c.lengths_end-end.ensures in
    let w = c.write_starts.ensures in
    record {
      value = rw (← first, ← second, ← c.in-Ok.ensures.in_numbers, text-accepted) w.value;
      out_after = rw (← first, ← second, ← c.in-Ok.ensures.in_numbers, text-accepted) w.out_after;
    }

pub returns-in-Err : goal.returns-in-Err
returns-in-Err c =
    let xs : List ℕ = c.args.input.now in
    let first = first_part xs _ c.lengths_end-end.ensures in
    let second = second-part xs _ c.lengths_end-end.ensures in
    let w = c.write_refusal_line.ensures in
    record {
      value = rw (← first, ← second, ← c.in-Err.ensures.in_numbers, text-refused, ← c.number.ensures) w.value;
      out_after = rw (← first, ← second, ← c.in-Err.ensures.in_numbers, text-refused, ← c.number.ensures) w.out_after;
    }
