use mathlib.Core.Path.{◌≡◌}
use native.Mathlib.Omega.{arith}
use lib.ListN.{length}
use Rattle.table_checks.specs.Table.{frames}
use Rattle.table_checks.proofs.Laws.Accepted.{length-frames, accepted-size, accepted-valid}
use Rattle.worst_case.specs.Laws.Last.{last-start, last-next, last-end}
use Rattle.worst_case.proofs.last.last_row.Goals as goal

pub loop-i-init : goal.loop-i-init
loop-i-init c = (c.count-lines.ensures, last-start _)

pub loop-i-preserved : goal.loop-i-preserved
loop-i-preserved c = (c.loop-i.invariant.0, last-next _ c.loop-i.invariant.1 c.later-last.ensures)

pub returns : goal.returns
returns c =
    let table = c.args.table.now in
    let l = c.loop-i in
    let size = accepted-size table.rows.now table.accepted.1 in
    let all : l.i ≡ length (frames table) = omega (arith, l.invariant.0, l.auto.i-end, size.some, size.whole, c.loop-i-test.false, length-frames table.lengths table.rows.now) in
    record { value = last-end _ (accepted-valid table.rows.now table.accepted.1 table.lengths table.accepted.0) all l.invariant.1; listed = omega (arith, l.invariant.1.listed) }
