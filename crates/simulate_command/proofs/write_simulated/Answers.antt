-- `simulate_command::write_simulated` meets its contract.
use Rattle.simulate_command.specs.Laws.Printed.{input-printed}
use Rattle.simulate_command.proofs.write_simulated.Goals as goal

pub returns : goal.returns
returns c =
    let answer = input-printed _ _ _ _ c.simulate_input-simulated.ensures.value c.simulate_input-simulated.ensures.out_after (c.write_answer.ensures.value, c.write_answer.ensures.out_after) in record { value = answer.0; out_after = answer.1 }
