use mathlib.Core.Path.{◌≡◌, refl, sym, ap, ◌∙◌}
use native.Mathlib.Omega.{arith}
use borrow.Author.Rules.{rules}
use lib.ListN.{length}
use Rattle.simulator.proofs.Theory.Lowest.{lowest-more}
use Rattle.simulator.specs.Engine.{rank_at, lowest_of}
use Rattle.table_checks.specs.Table.{frames}
use Rattle.table_checks.proofs.Laws.Accepted.{length-frames, accepted-size}
use Rattle.simulator.proofs.turn.best.Goals as goal

pub loop-i-init : goal.loop-i-init
unfolding lowest_of
loop-i-init c = (refl, search rules)

-- rows are at most 64
pub better-k-requires : goal.better-k-requires
better-k-requires c = (omega (arith, c.loop-i-test.true, c.count-i-end.ensures, (accepted-size _ c.args.table.now.accepted.1).most), c.loop-i.invariant.1)

pub loop-i-preserved : goal.loop-i-preserved
loop-i-preserved c = let l = c.loop-i in let key = rank_at (frames c.args.table.now) c.args.due c.args.t in (c.better-k.ensures.value ∙ rw l.invariant.0 (sym (lowest-more key l.i)), c.better-k.ensures.small)

pub returns : goal.returns
returns c =
    let l = c.loop-i in
    let z : l.i ≡ length (frames c.args.table.now) = omega (arith, c.count-i-end.ensures, length-frames c.args.table.now.lengths c.args.table.now.rows.now) in
    record { value = l.invariant.0 ∙ ap (lowest_of (rank_at (frames c.args.table.now) c.args.due c.args.t)) z; small = l.invariant.1 }
