-- By what is looked for.
use Rattle.std.proofs.Common.{rules}
use Rattle.workload.specs.Faults.{lead_of}
use Rattle.workload.proofs.faults.lead_of.Goals as goal

pub returns-in-Window : goal.returns-in-Window
unfolding lead_of
returns-in-Window c = rw c.in-Window.is (search rules)

pub returns-in-Instance : goal.returns-in-Instance
unfolding lead_of
returns-in-Instance c = rw c.in-Instance.is (search rules)
