use Prim.Native.Nat.{◌+◌}
use mathlib.Core.Path.{◌≡◌, refl, sym, ap, ◌∙◌}
use native.Mathlib.Omega.{arith}
use Rattle.arith.specs.Laws.Least.{least-end}
use Rattle.workload.specs.Placed.{placed_in, placed_work}
use Rattle.response_time.specs.Laws.Searches.{placed-here, placed-skip, placed-beyond}
use Rattle.response_time.proofs.search.climb.Goals as goal
use Rattle.response_time.proofs.search.climb.Goals.{After-placed_work}

pub loop-x-init : goal.loop-x-init
loop-x-init c = refl

pub overflow_add-x : goal.overflow_add-x
overflow_add-x c = omega (arith, c.requires.shift_bound, c.loop-x-test.true)

pub placed_work-requires : goal.placed_work-requires
placed_work-requires c = record { fine_placed = c.requires.fine_placed; n_bound = omega (arith, c.requires.shift_bound, c.loop-x-test.true) }

-- the load of the number tried
needed : (c : After-placed_work) → let a = c.args in a.base + c.placed_work.result ≡ a.base + placed_work (placed_in a.placed.now) (c.loop-x.x + a.shift)
needed c = ap (λ n. c.args.base + n) c.placed_work.ensures.value

pub overflow_add-needed : goal.overflow_add-needed
overflow_add-needed c = omega (arith, c.placed_work.ensures.small, c.requires.shift_bound)

pub returns-then-needed-x : goal.returns-then-needed-x
returns-then-needed-x c =
    placed-here c.requires.fine_placed _ _ c.args.end c.loop-x.x (needed (goal.at.returns-then-needed-x c).After-placed_work) c.loop-x-test.true c.if-needed-x.true ∙ c.loop-x.invariant

pub returns-then-end-needed : goal.returns-then-end-needed
returns-then-end-needed c =
    placed-beyond c.requires.fine_placed _ _ c.args.end c.loop-x.x (needed (goal.at.returns-then-end-needed c).After-placed_work) c.if-end-needed.true ∙ c.loop-x.invariant

pub overflow_cast-x-in-loop-x : goal.overflow_cast-x-in-loop-x
overflow_cast-x-in-loop-x c = omega (arith, c.requires.shift_bound.2, c.if-end-needed.false)

pub loop-x-smaller : goal.loop-x-smaller
loop-x-smaller c = omega (arith, c.if-needed-x.false, c.if-end-needed.false)

pub loop-x-preserved : goal.loop-x-preserved
loop-x-preserved c =
    sym (placed-skip c.requires.fine_placed _ _ c.args.end c.loop-x.x (needed (goal.at.loop-x-preserved c).After-placed_work) c.if-needed-x.false (omega (arith, c.if-end-needed.false))) ∙ c.loop-x.invariant

pub returns : goal.returns
returns c = sym (least-end _ _ c.loop-x.x c.loop-x-test.false) ∙ c.loop-x.invariant
