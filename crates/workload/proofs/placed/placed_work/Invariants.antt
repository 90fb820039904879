-- The loop goes through the placed frames and adds up their demand.
use Rattle.std.proofs.Common.{◌+◌, ◌*◌, ◌≤◌}
use Rattle.arith.specs.Laws.Walks.{Through}
use Rattle.workload.specs.Placed.{placed_in, placed_work}
use Rattle.workload.proofs.placed.placed_work.Given as goal

abbrev pub invariant-loop-p : goal.invariant-loop-p
invariant-loop-p l = Through (λ ps. placed_work (placed_in ps) l.n) ◌+◌ l.placed (placed_work (placed_in l.placed) l.n) l.sum l.p-index × (l.sum ≤ 431431431 * l.p-index)
