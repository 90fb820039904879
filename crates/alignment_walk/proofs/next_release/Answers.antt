-- The next release is small.
use Prim.Native.Nat.{◌*◌, ◌≤◌}
use native.Mathlib.Omega.{arith}
use Rattle.arith.specs.Laws.Releases.{count-short}
use Rattle.alignment_walk.proofs.next_release.Goals as goal
use Rattle.alignment_walk.proofs.next_release.Goals.{After-releases_before}

short : (c : After-releases_before) → c.releases_before.result * c.args.g.period ≤ 2000000
short c =
    let g = c.args.g in
    rw c.releases_before.ensures.value (omega (arith, count-short c.phase_of-phase.result c.requires.fine.period-low c.args.after, c.requires.fine.period-high, c.requires.after_bound))

pub overflow_mul-result : goal.overflow_mul-result
overflow_mul-result c = omega (arith, short (goal.at.overflow_mul-result c).After-releases_before)

pub overflow_add-result : goal.overflow_add-result
overflow_add-result c = omega (arith, short (goal.at.overflow_add-result c).After-releases_before, c.phase_of-phase.ensures.small, c.requires.fine.period-high)
