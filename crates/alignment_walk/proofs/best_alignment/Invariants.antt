-- The loop goes from one alignment to the next, counts them, and keeps the greatest work that they give, with an alignment that it came by.
use Prim.Native.Nat.{ℕ, ◌+◌, ◌-◌, ◌*◌, ◌≤◌, max}
use mathlib.Core.List.{Memᴰ as Mem}
use lib.ListN.{length}
use Rattle.arith.specs.Lists.{greatest}
use Rattle.arith.specs.Laws.Walks.{Walk}
use Rattle.bus_model.specs.Bounds.{work_at}
use Rattle.workload.specs.Prepared.{frames_in, table_of, is_instant, instants_in}
use Rattle.alignment_walk.specs.Steps.{wait_from, Noted}
use Rattle.alignment_walk.proofs.best_alignment.Given as goal

abbrev pub invariant-loop-work : goal.invariant-loop-work
invariant-loop-work l =
    let f : ℕ → ℕ = λ b. work_at (frames_in (table_of l.rows l.prepared) l.part) b l.n in
    Walk (greatest f) max (is_instant (frames_in (table_of l.rows l.prepared) l.part)) l.end (greatest f (instants_in (frames_in (table_of l.rows l.prepared) l.part) l.end)) l.work l.a
    × Mem l.a (instants_in (frames_in (table_of l.rows l.prepared) l.part) l.end)
    × (l.work ≤ 64 * 400400400) × Mem l.alignment (instants_in (frames_in (table_of l.rows l.prepared) l.part) l.end)
    × (l.gap ≤ l.a) × Noted (wait_from (l.a - l.gap) l.a) (table_of l.rows l.prepared) l.part l.waits
    × Walk length ◌+◌ (is_instant (frames_in (table_of l.rows l.prepared) l.part)) l.end (length (instants_in (frames_in (table_of l.rows l.prepared) l.part) l.end)) l.count l.a × (l.count ≤ l.a)

abbrev pub decreases-loop-work : goal.decreases-loop-work
decreases-loop-work l = l.end - l.a
