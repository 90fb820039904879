use Prim.Native.Nat.{◌-◌}
use native.Mathlib.Omega.{arith}
use borrow.Author.Rules.{rules}
use Rattle.table_checks.specs.Steps.{Periods}
use Rattle.table_checks.proofs.ChecksLaws.{rows_all, releases-none, releases-more}
use Rattle.table_checks.proofs.checks.group_releases.Goals as goal

pub loop-i-init : goal.loop-i-init
loop-i-init c = (releases-none _ _ _, search rules)

pub frame_releases-sum-requires : goal.frame_releases-sum-requires
unfolding Periods
frame_releases-sum-requires c =
    (c.requires.periods (c.loop-i.i - 1) (omega (arith, c.loop-i.invariant.0.inside, c.loop-i-test.true))).0

pub overflow_add-sum : goal.overflow_add-sum
overflow_add-sum c =
    let m = releases-more _ _ _ c.loop-i.invariant.0 c.loop-i-test.true c.frame_releases-sum.ensures in
    omega (arith, m.1, c.requires.t_len_bound, c.loop-i.invariant.1)

pub loop-i-preserved : goal.loop-i-preserved
loop-i-preserved c =
    let m = releases-more _ _ _ c.loop-i.invariant.0 c.loop-i-test.true c.frame_releases-sum.ensures in
    (m.0, omega (arith, m.1, c.requires.t_len_bound, c.loop-i.invariant.1, c.loop-i.invariant.0.inside))

pub returns : goal.returns
returns c = rows_all _ _ c.loop-i.invariant.0 c.loop-i-test.false
