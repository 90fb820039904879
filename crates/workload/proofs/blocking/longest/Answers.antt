use Rattle.std.proofs.Common.{arith, ◌∙◌, sym}
use Rattle.workload.proofs.Laws.Prepared.{length-table}
use Rattle.workload.proofs.Laws.Groups.{side, side-is, side-test, longest-more, longest-all, longest-small}
use Rattle.workload.proofs.blocking.longest.Goals as goal
use Rattle.workload.proofs.blocking.longest.Goals.{then-k-g, else-k-g}

pub loop-i-preserved : goal.loop-i-preserved
loop-i-preserved c =
    let test = sym (side-test c.args.is_below c.args.k c.row_at.result.frame) in
    longest-more _ _ c.loop-i.invariant (omega (arith, length-table c.args.rows.now c.args.prepared.now, c.loop-i-test.true)) c.row_at.ensures (
    elim c.if-k-g.branch [
      | then-k-g w ↦ rw (test ∙ w.if-k-g.true) (w.longest-is ∙ w.max-longest.ensures)
      | else-k-g w ↦ rw (test ∙ w.if-k-g.false) (w.longest-is ∙ omega arith)
    ]
    )

pub returns : goal.returns
returns c =
    let is = longest-all _ _ c.loop-i.invariant (omega (arith, length-table c.args.rows.now c.args.prepared.now, c.loop-i-test.false)) in
    record { value = is ∙ side-is c.args.is_below _ c.args.k; small = omega (arith, is, longest-small _ c.requires.table (side c.args.is_below c.args.k)) }
