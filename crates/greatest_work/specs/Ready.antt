-- What the searches for one judged frame work with, under one name: they pass it on whole.
use Rattle.std.specs.Prelude.{ℕ, ◌≡◌, List, T}
use Rattle.bus_model.specs.Bounds.{blocking}
use Rattle.workload.specs.declared.Target.{Target}
use Rattle.workload.specs.Prepared.{table_of, Prepared, InTable}
use Rattle.workload.specs.Faults.{cost_of, FineTarget}
use Rattle.greatest_work.specs.Listed.{is_listed}
use Rattle.greatest_work.specs.Memory.{Remembered}

-- the area is prepared for the target, a frame of the table with its blocking, a premise about faults and what one costs it
pub record Posed (rows p : List ℕ) (t : Target) : Type 0 where
  pub prepared : Prepared rows p t.frame
  pub listed : T (is_listed (table_of rows p) t.frame)
  pub blocked : t.blocked ≡ blocking (table_of rows p) t.frame
  pub target : FineTarget t
  pub cost : t.cost ≡ cost_of t.faults (table_of rows p) t.frame

-- and what is remembered is so of it
pub record Ready (rows p : List ℕ) (t : Target) (memory : List ℕ) : Type 0 where
  pub prepared : Prepared rows p t.frame
  pub listed : InTable (table_of rows p) t.frame
  pub blocked : t.blocked ≡ blocking (table_of rows p) t.frame
  pub target : FineTarget t
  pub cost : t.cost ≡ cost_of t.faults (table_of rows p) t.frame
  pub remembered : Remembered (table_of rows p) t.frame memory
