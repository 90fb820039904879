-- A passed check answers 0, a refusal is encoded as certifier does.
use mathlib.Core.Path.{sym, ap, ◌∙◌}
use Rattle.arith.specs.Laws.Signed.{kept}
use Rattle.certifier.specs.Encode.{encode_refusal}
use Rattle.test_entries.specs.Encode.{encode_checked}
use Rattle.test_entries.proofs.test_check.Goals as goal

pub returns-in-Ok : goal.returns-in-Ok
unfolding encode_checked
returns-in-Ok c = rw (sym c.check.ensures.value ∙ c.in-Ok.is)

pub returns-in-Err : goal.returns-in-Err
unfolding encode_checked
returns-in-Err c =
    rw (sym c.check.ensures.value ∙ c.in-Err.is)
    (kept _ c.encode_refusal.type_inv ∙ c.encode_refusal.ensures ∙ ap encode_refusal c.from.ensures)
