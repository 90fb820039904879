-- `busiest_command::write_text` meets its contract: the text goes by the answer.
use Rattle.busiest_command.specs.Laws.Text.{text-refused, text-done}
use Rattle.busiest_command.proofs.write_text.Goals as goal

pub returns-in-Err : goal.returns-in-Err
returns-in-Err c =
    let refused = c.in-Err.is in
    let a = c.busiest_input.ensures in
    let line = text-refused _ _ _ _ _ _ a.value a.in_numbers _ refused in
    let left = rw refused at a.out_after in
    record {
      value = rw (← line, ← left, ← c.number.ensures) c.write_refusal_line.ensures.value;
      out_after = rw (← line, ← left, ← c.number.ensures) c.write_refusal_line.ensures.out_after;
    }

pub returns-in-Ok : goal.returns-in-Ok
returns-in-Ok c = let a = c.busiest_input.ensures in let answer = text-done _ _ _ _ _ _ a.value a.in_numbers _ _ c.in-Ok.is a.out_after in record { value = answer.0; out_after = answer.1 }
