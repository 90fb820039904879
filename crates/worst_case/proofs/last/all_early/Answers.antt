use native.Mathlib.Omega.{arith}
use Rattle.table_checks.specs.Table.{frames}
use Rattle.table_checks.proofs.Laws.Accepted.{length-frames}
use Rattle.worst_case.specs.Laws.Last.{late-found, early-next, early-end}
use Rattle.worst_case.proofs.last.all_early.Goals as goal

pub loop-i-init : goal.loop-i-init
loop-i-init c = (c.count-lines.ensures, λ j less. absurd (omega arith))

pub returns-then-frame : goal.returns-then-frame
returns-then-frame c =
    let table = c.args.table.now in
    late-found (frames table) c.frame-frame.ensures (omega (arith, c.loop-i.invariant.0, c.loop-i-test.true, length-frames table.lengths table.rows.now)) c.if-frame.true

pub loop-i-preserved : goal.loop-i-preserved
loop-i-preserved c =
    let table = c.args.table.now in
    (c.loop-i.invariant.0, early-next (frames table) c.frame-frame.ensures c.loop-i.invariant.1 (omega (arith, c.if-frame.false)))

pub returns : goal.returns
returns c =
    let table = c.args.table.now in
    early-end (frames table) (omega (arith, c.loop-i.invariant.0, c.loop-i-test.false, length-frames table.lengths table.rows.now)) c.loop-i.invariant.1
