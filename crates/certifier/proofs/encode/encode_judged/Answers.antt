-- Each of the two answers is encoded by its own function.
use mathlib.Core.Path.{◌∙◌}
use Rattle.arith.specs.Laws.Signed.{kept}
use Rattle.certifier.specs.Encode.{encode_judged}
use Rattle.certifier.proofs.encode.encode_judged.Goals as goal

pub returns-in-Err : goal.returns-in-Err
unfolding encode_judged
returns-in-Err c = rw c.in-Err.is (kept _ c.encode_refusal.type_inv ∙ c.encode_refusal.ensures)
