-- `certifier::listing::write_refusal` meets its contract: number and place are those of the refusal.
use Rattle.std.specs.Prelude.{Ok}
use Rattle.table_checks.specs.Refusal.{check_returns}
use Rattle.frame_table.specs.Laws.Returns.{answer-told}
use Rattle.certifier.proofs.listing.write_refusal.Goals as goal

pub returns : goal.returns
unfolding check_returns
returns c =
    let answer = answer-told (Ok tt) _ _ (rw (← c.number.ensures) (c.write_refusal_line.ensures.value, c.write_refusal_line.ensures.out_after)) in record { value = answer.0; out_after = answer.1.0; in_numbers = answer.1.1 }
