-- Number and place are those of the refusal.
use mathlib.Core.Path.{◌∙◌}
use Rattle.arith.specs.Laws.Signed.{kept}
use Rattle.certifier.specs.Encode.{encode_refusal}
use Rattle.certifier.proofs.encode.encode_refusal.Goals as goal

pub returns : goal.returns
unfolding encode_refusal
returns c = rw (← c.number.ensures) (kept _ c.encode_turned.type_inv ∙ c.encode_turned.ensures)
