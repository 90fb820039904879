-- It begins no sooner than the lead ends, and at most a gap later.
use Rattle.std.proofs.Common.{◌+◌, ◌*◌, ◌≤◌, arith}
use Rattle.arith.specs.Laws.Releases.{next-after, count-short}
use Rattle.workload.proofs.faults.first_fault.Goals as goal
use Rattle.workload.proofs.faults.first_fault.Goals.{After-releases_before}

-- where it begins, counted from 0
within : (c : After-releases_before) → (c.args.lead ≤ c.releases_before.result * c.args.gap) × (c.releases_before.result * c.args.gap ≤ c.args.lead + c.args.gap)
within c =
    rw c.releases_before.ensures.value (omega (arith, next-after 0 c.requires.0 c.args.lead), omega (arith, count-short 0 c.requires.0 c.args.lead))

pub overflow_sub-result : goal.overflow_sub-result
overflow_sub-result c = omega (arith, (within c).0)
