-- By the premise.
use Rattle.std.proofs.Common.{ℕ, ◌+◌, ap}
use Rattle.bus_model.specs.Bounds.{fault_time}
use Rattle.workload.specs.Faults.{cost_of}
use Rattle.workload.proofs.faults.fault_time.Goals as goal

pub returns-in-Never : goal.returns-in-Never
unfolding cost_of
returns-in-Never c = rw c.in-Never.is

pub returns-in-Apart : goal.returns-in-Apart
unfolding cost_of fault_time
returns-in-Apart c = rw c.in-Apart.is (ap (λ (n : ℕ). 31 + n) c.longest.ensures.value)
