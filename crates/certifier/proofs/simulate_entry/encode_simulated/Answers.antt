-- What was written is small and is read as signed as it stands; a refusal is encoded by number and place.
use Prim.Native.Nat.{◌^◌, ◌<◌}
use mathlib.Core.Path.{subst, ◌∙◌}
use native.Mathlib.Omega.{arith}
use borrow.Author.Tests.{ne_eqb}
use Rattle.arith.specs.Laws.Signed.{to_z_pos, kept}
use Rattle.simulator.specs.Simulate.{simulated_returns}
use Rattle.simulator.proofs.Theory.Answers.{refusal-some}
use Rattle.certifier.specs.LogEntry.{encode_answered}
use Rattle.certifier.specs.SimulateEntry.{CountableLog}
use Rattle.certifier.proofs.simulate_entry.encode_simulated.Goals as goal
use Rattle.certifier.proofs.simulate_entry.encode_simulated.Goals.{In-Ok}

-- the count is small
small : (c : In-Ok) → c.in-Ok.n < 2 ^ 63
small c = subst CountableLog c.in-Ok.is c.requires

pub returns-in-Ok : goal.returns-in-Ok
unfolding simulated_returns encode_answered
returns-in-Ok c = rw c.in-Ok.is (to_z_pos _ (omega (arith, small c)))

pub returns-in-Err : goal.returns-in-Err
unfolding simulated_returns encode_answered
returns-in-Err c =
    rw (c.in-Err.is, ne_eqb _ _ (refusal-some c.in-Err.refusal), ← c.number.ensures, ← c.place.ensures) (kept _ c.encode_turned.type_inv ∙ c.encode_turned.ensures)
