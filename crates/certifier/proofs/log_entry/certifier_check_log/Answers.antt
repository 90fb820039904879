-- `certifier::log_entry::certifier_check_log` meets its contract: starts that are shown are stored, and a refusal leaves the area.
use mathlib.Core.Path.{◌∙◌}
use Rattle.arith.specs.Laws.Signed.{kept}
use Rattle.certifier.proofs.Laws.LogEntry.{stored-not, stored-shown}
use Rattle.certifier.proofs.log_entry.certifier_check_log.Goals as goal

pub returns-in-Ok : goal.returns-in-Ok
returns-in-Ok c =
    let e = c.store_starts.ensures in
    let answer = stored-shown _ _ (kept _ c.store_starts.type_inv ∙ e.value, e.area_after) in
    rw (← c.in-Ok.ensures.in_numbers) (record { value = answer.0; starts_after = answer.1 })

pub returns-in-Err : goal.returns-in-Err
returns-in-Err c =
    let (a, b) = stored-not c.in-Err.refusal c.args.starts.now in
    rw (← c.in-Err.ensures.in_numbers) (record { value = rw c.number.ensures at (kept _ c.encode_turned.type_inv ∙ c.encode_turned.ensures) ∙ a; starts_after = b })
