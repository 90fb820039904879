-- `simulator::operation::simulate` meets its contract: what the checks turn back is answered with its refusal, and else the table is simulated.
use Rattle.simulator.proofs.Theory.Answers.{rows_told, converted, left-refused, left_passed}
use Rattle.simulator.proofs.operation.simulate.Goals as goal

pub returns-in_err-table : goal.returns-in_err-table
returns-in_err-table c =
    let answer = rows_told _ _ _ _ _ (left-refused _ _ _ _ _ _ c.in_err-table.ensures (converted _ _ c.from_residual.ensures.1)) in
    record { value = answer.0; out_after = answer.1.0; in_numbers = answer.1.1.0; accepted = answer.1.1.1 }

pub returns : goal.returns
returns c =
    let t = c.in_ok-table.ensures in
    let e = c.simulate_accepted.ensures in
    let answer = rows_told _ _ _ _ _ (left_passed _ _ _ _ _ t.2 (rw (← t.0, ← t.1) (e.value, e.out_after))) in
    record { value = answer.0; out_after = answer.1.0; in_numbers = answer.1.1.0; accepted = answer.1.1.1 }
