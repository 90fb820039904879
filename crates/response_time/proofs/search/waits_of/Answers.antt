-- What is waited for, and the faults in the lead.
use Prim.Native.Nat.{ℕ, ◌+◌, ◌*◌}
use mathlib.Core.Path.{ap, ap₂, ◌∙◌}
use native.Mathlib.Omega.{arith}
use Rattle.workload.specs.Faults.{faults_in}
use Rattle.response_time.specs.Load.{waits_of}
use Rattle.response_time.proofs.search.waits_of.Goals as goal

pub returns : goal.returns
unfolding waits_of
returns c =
    let base = c.base_of.ensures in
    let cost = c.fault_cost.ensures in
    record { value = ap₂ ◌+◌ base (cost.value ∙ ap (λ (n : ℕ). faults_in c.args.target.faults n * c.args.target.cost) c.lead_of.ensures.value); small = omega (arith, base, c.requires.search_bound, cost.small) }
