use Prim.Native.Nat.{◌-◌, ◌/◌, ◌<◌}
use mathlib.Core.Path.{◌∙◌}
use native.Mathlib.Omega.{arith}
use borrow.Author.Rules.{rules}
use lib.ListN.{length}
use Rattle.arith.specs.Laws.Walks.{down-end}
use Rattle.table_checks.specs.Columns.{columns}
use Rattle.table_checks.proofs.Laws.Accepted.{frame_row, accepted-size}
use Rattle.load_sheet.specs.Sheet.{node_frames, rows_of}
use Rattle.load_sheet.proofs.Laws.Loads.{frame-limits, work_none, work-more}
use Rattle.load_sheet.proofs.loads.work.Goals as goal

pub loop-i-init : goal.loop-i-init
loop-i-init c = rw c.count-i.ensures (work_none _ _ _ _, search rules, search rules)

pub frame_work-sum-requires : goal.frame_work-sum-requires
frame_work-sum-requires c =
    let l : c.loop-i.i - 1 < length c.args.table.now.rows.now / columns = omega (arith, c.loop-i.invariant.2, c.loop-i-test.true) in
    let is = c.frame-g.ensures ∙ frame_row _ _ (c.loop-i.i - 1) l in
    let m = frame-limits _ _ c.args.table.now.accepted.0 c.args.table.now.accepted.1 (c.loop-i.i - 1) l in
    (c.requires, rw is m.0, rw is m.1)

pub overflow_add-sum : goal.overflow_add-sum
overflow_add-sum c =
    omega (arith, (accepted-size _ c.args.table.now.accepted.1).most, c.loop-i.invariant.1, c.frame_work-sum.ensures.small)

pub loop-i-preserved : goal.loop-i-preserved
loop-i-preserved c =
    let some = c.loop-i-test.true in (
      work-more _ _ _ _ c.loop-i.invariant.0 some c.frame-g.ensures c.frame_work-sum.ensures.value,
      omega (arith, c.loop-i.invariant.1, c.loop-i.invariant.2, some, c.frame_work-sum.ensures.small),
      search rules,
    )

pub returns : goal.returns
unfolding node_frames rows_of
returns c =
    record { value = down-end _ _ c.loop-i.invariant.0 c.loop-i-test.false; small = omega (arith, c.loop-i.invariant.1, (accepted-size _ c.args.table.now.accepted.1).most) }
