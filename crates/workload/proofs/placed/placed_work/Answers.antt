use Rattle.std.proofs.Common.{ℕ, ◌+◌, ◌<◌, get_or, sym, ap, ◌∙◌, add-zero, arith}
use mathlib.Core.List.Memᴰ
use Rattle.arith.specs.Lists.{sum}
use Rattle.arith.specs.Laws.Members.{mem-get_d}
use Rattle.arith.specs.Laws.Walks.{through-more, through-end, sum_more}
use Rattle.workload.specs.declared.placed.PlacedFrame.{PlacedFrame}
use Rattle.workload.specs.Placed.{placed_at, placed_in, placed_demand, placed_work, FineOne}
use Rattle.workload.proofs.Laws.Placed.{length-placed}
use Rattle.workload.proofs.placed.placed_work.Goals as goal
use Rattle.workload.proofs.placed.placed_work.Goals.{In-loop-p}

abbrev none : PlacedFrame
none = record { length = 0; period = 0; first = 0; inverse = 0 }

-- the frame is within its limits
fine : (c : In-loop-p) → FineOne (placed_at (get_or c.args.placed.now c.loop-p.p-index none))
unfolding placed_in
fine c = c.requires.fine_placed.fine _ (Memᴰ.map placed_at (mem-get_d c.args.placed.now c.loop-p.p-index none c.loop-p-test.true))

-- and one of 65
few : (c : In-loop-p) → c.loop-p.p-index < 65
few c = omega (arith, c.loop-p-test.true, c.requires.fine_placed.few, length-placed c.args.placed.now)

pub demand_from-sum-requires : goal.demand_from-sum-requires
demand_from-sum-requires c = let f = fine (goal.at.demand_from-sum-requires c).In-loop-p in (f.length_high, f.period-low, f.period-high, c.requires.n_bound)

pub overflow_add-sum : goal.overflow_add-sum
overflow_add-sum c = omega (arith, (fine (goal.at.overflow_add-sum c).In-loop-p).length_high, c.loop-p.invariant.1, few (goal.at.overflow_add-sum c).In-loop-p, c.demand_from-sum.ensures.small)

pub loop-p-preserved : goal.loop-p-preserved
unfolding placed_work placed_in
loop-p-preserved c =
    let l = c.loop-p in
    let n = c.args.n in (
      through-more _ _ _ _ none l.invariant.0 c.loop-p-test.true (λ ps. sum_more (placed_demand n) l.sum _ (ap (λ (x : ℕ). l.sum + x) c.demand_from-sum.ensures.value) (placed_in ps)),
      omega (arith, l.invariant.1, c.demand_from-sum.ensures.small, (fine (goal.at.loop-p-preserved c).In-loop-p).length_high),
    )

pub returns : goal.returns
unfolding placed_work placed_in sum
returns c =
    let l = c.loop-p in
    record { value = sym (add-zero _) ∙ through-end _ _ _ _ l.invariant.0 c.loop-p-test.false; small = omega (arith, l.invariant.1, l.invariant.0.inside, c.requires.fine_placed.few, length-placed c.args.placed.now) }
