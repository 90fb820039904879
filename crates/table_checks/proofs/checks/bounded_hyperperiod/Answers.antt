use Prim.Native.Nat.{◌-◌}
use native.Mathlib.Omega.{arith}
use borrow.Author.Rules.{rules}
use Rattle.table_checks.specs.Steps.{Periods}
use Rattle.table_checks.proofs.ChecksLaws.{rows_all, hyper-start, hyper-row, hyper-most}
use Rattle.table_checks.proofs.checks.bounded_hyperperiod.Goals as goal

pub loop-i-init : goal.loop-i-init
loop-i-init c = (hyper-start _ _, search rules, search rules)

pub joined-h-requires : goal.joined-h-requires
unfolding Periods
joined-h-requires c =
    let i = c.loop-i.invariant in
    (i.1, i.2, (c.requires (c.loop-i.i - 1) (omega (arith, i.0.inside, c.loop-i-test.true))).1)

pub returns-then-h-gt-MOST_TICKS : goal.returns-then-h-gt-MOST_TICKS
returns-then-h-gt-MOST_TICKS c =
    let m = hyper-row _ _ c.requires c.loop-i.invariant.0 c.loop-i-test.true c.joined-h.ensures in
    omega (arith, hyper-most _ _ c.requires m.0, c.if-h-gt-MOST_TICKS.true)

pub loop-i-preserved : goal.loop-i-preserved
loop-i-preserved c =
    let m = hyper-row _ _ c.requires c.loop-i.invariant.0 c.loop-i-test.true c.joined-h.ensures in
    (m.0, omega (arith, m.1, c.loop-i.invariant.1), c.if-h-gt-MOST_TICKS.false)

pub returns : goal.returns
returns c = omega (arith, rows_all _ _ c.loop-i.invariant.0 c.loop-i-test.false, c.loop-i.invariant.2)
