-- The count is small and is read as signed as it stands; number and place are those of the refusal.
use mathlib.Core.Path.{refl, ◌∙◌}
use native.Mathlib.Omega.{arith}
use borrow.Author.Tests.{ne_eqb}
use Rattle.arith.specs.Laws.Signed.{to_z_pos, kept}
use Rattle.log_load.specs.Returns.{answer_returns}
use Rattle.log_load.specs.Theory.Returns.{cause-some}
use Rattle.certifier.specs.LogEntry.{encode_answered}
use Rattle.certifier.proofs.busiest_entry.certifier_busiest.Goals as goal

pub returns-in-Ok : goal.returns-in-Ok
unfolding encode_answered answer_returns
returns-in-Ok c =
    let a = c.in-Ok.ensures in
    let most = (a.says _ refl).most in
    record { value = rw (← a.in_numbers) (to_z_pos _ (omega (arith, most))); out_after = rw (← a.value) a.out_after }

pub returns-in-Err : goal.returns-in-Err
unfolding encode_answered answer_returns
returns-in-Err c =
    let a = c.in-Err.ensures in
    record {
      value = rw (← a.in_numbers, ne_eqb _ 0 (cause-some c.in-Err.refusal.cause), ← c.number.ensures) (kept _ c.encode_turned.type_inv ∙ c.encode_turned.ensures);
      out_after = rw (← a.value) a.out_after;
    }
