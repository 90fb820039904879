-- The loop stands at a level that is the first or within the limit, and has its product.
use Rattle.bus_model.proofs.Theory.LevelSearch.{AtLevel}
use Rattle.workload.specs.Prepared.{table_of}
use Rattle.bounds.proofs.count.deepest_level.Given as goal

abbrev pub invariant-loop-level : goal.invariant-loop-level
invariant-loop-level l = AtLevel (table_of l.fn.rows l.fn.prepared) l.fn.k l.product l.level
