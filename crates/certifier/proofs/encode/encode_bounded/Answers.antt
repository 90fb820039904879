-- A bound has 32 bits and is read as signed as it stands; a refusal is encoded by its own function.
use mathlib.Core.Path.{◌∙◌}
use Rattle.arith.specs.Laws.Signed.{kept}
use Rattle.certifier.specs.Encode.{encode_bounded}
use Rattle.certifier.proofs.encode.encode_bounded.Goals as goal

pub returns-in-Ok : goal.returns-in-Ok
unfolding encode_bounded
returns-in-Ok c = rw c.in-Ok.is (kept _ c.from.type_inv ∙ c.from.ensures)

pub returns-in-Err : goal.returns-in-Err
unfolding encode_bounded
returns-in-Err c = rw c.in-Err.is (kept _ c.encode_refusal.type_inv ∙ c.encode_refusal.ensures)
