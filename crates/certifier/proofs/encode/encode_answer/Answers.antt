-- The count is small and is read as signed as it stands; a refusal is encoded by its own function.
use Prim.Native.Nat.{◌^◌, ◌<◌}
use mathlib.Core.Path.{ap, subst, ◌∙◌}
use native.Mathlib.Omega.{arith}
use Rattle.arith.specs.Laws.Signed.{to_z_pos, kept}
use Rattle.certifier.specs.Encode.{encode_refusal, encode_answer}
use Rattle.certifier.specs.Steps.{Countable}
use Rattle.certifier.proofs.encode.encode_answer.Goals as goal
use Rattle.certifier.proofs.encode.encode_answer.Goals.{In-Ok}

-- the count is small
small : (c : In-Ok) → c.in-Ok.n < 2 ^ 63
small c = subst Countable c.in-Ok.is c.requires

pub returns-in-Ok : goal.returns-in-Ok
unfolding encode_answer
returns-in-Ok c = rw c.in-Ok.is (to_z_pos _ (omega (arith, small c)))

pub returns-in-Err : goal.returns-in-Err
unfolding encode_answer
returns-in-Err c = rw c.in-Err.is (kept _ c.encode_refusal.type_inv ∙ c.encode_refusal.ensures ∙ ap encode_refusal c.from.ensures)
