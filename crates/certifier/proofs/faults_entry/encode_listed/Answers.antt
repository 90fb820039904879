-- The count is small and is read as signed as it stands; a refusal is encoded by its own function.
use Prim.Native.Nat.{◌^◌, ◌<◌}
use mathlib.Core.Path.{subst, ◌∙◌}
use native.Mathlib.Omega.{arith}
use borrow.Author.Tests.{ne_eqb}
use Rattle.arith.specs.Laws.Signed.{to_z_pos, kept}
use Rattle.row_judgement.specs.Laws.Returns.{number-some}
use Rattle.certifier.specs.FaultsListing.{listed_returns}
use Rattle.certifier.specs.LogEntry.{encode_answered}
use Rattle.certifier.specs.Encode.{encode_refusal}
use Rattle.certifier.specs.Steps.{Countable}
use Rattle.certifier.proofs.faults_entry.encode_listed.Goals as goal
use Rattle.certifier.proofs.faults_entry.encode_listed.Goals.{In-Ok}

-- the count is small
small : (c : In-Ok) → c.in-Ok.n < 2 ^ 63
small c = subst Countable c.in-Ok.is c.requires

pub returns-in-Ok : goal.returns-in-Ok
unfolding encode_answered listed_returns
returns-in-Ok c = rw c.in-Ok.is (to_z_pos _ (omega (arith, small c)))

pub returns-in-Err : goal.returns-in-Err
unfolding encode_answered listed_returns encode_refusal
returns-in-Err c = rw (c.in-Err.is, ne_eqb _ 0 (number-some c.in-Err.refusal.cause)) (kept _ c.encode_refusal.type_inv ∙ c.encode_refusal.ensures)
