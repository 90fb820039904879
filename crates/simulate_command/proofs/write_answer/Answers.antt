-- `simulate_command::write_answer` meets its contract: a log stands, and a refusal is a line.
use mathlib.Core.Path.{refl}
use Rattle.std.specs.Prelude.{Err}
use Rattle.simulator.specs.Simulate.{simulated_returns}
use Rattle.simulator.proofs.Theory.Answers.{refusal-some}
use Rattle.simulate_command.specs.Steps.{answer_after, area_printed}
use Rattle.simulate_command.specs.Laws.Printed.{line-printed}
use Rattle.simulate_command.proofs.write_answer.Goals as goal

pub returns-in-Ok : goal.returns-in-Ok
unfolding simulated_returns answer_after area_printed
returns-in-Ok c = record { value = rw c.in-Ok.is refl; out_after = rw c.in-Ok.is refl }

pub returns-in-Err : goal.returns-in-Err
unfolding simulated_returns
returns-in-Err c =
    let r = c.in-Err.refusal in
    let e = c.write_refusal_line.ensures in
    let value = rw (c.number.ensures, c.place.ensures) at e.value in
    let after = rw (c.number.ensures, c.place.ensures) at e.out_after in
    let both = line-printed (simulated_returns (Err r)) c.args.out.now (refusal-some r) (value, after) in
    record { value = rw c.in-Err.is both.0; out_after = rw c.in-Err.is both.1 }
