-- The setting of the searches for one judged frame, and what is remembered there.
use Rattle.std.specs.Prelude.{ℕ, List}
use Rattle.bus_model.specs.declared.Frame.{Frame}
use Rattle.workload.specs.Prepared.{table_of, InTable}
use Rattle.greatest_work.specs.declared.Setting.{Setting}
use Rattle.greatest_work.specs.Listed.{listed-row}
use Rattle.greatest_work.specs.Memory.{Remembered}
use Rattle.greatest_work.specs.Ready.{Ready}

-- the frames of its table
abbrev pub frames : Setting → List Frame
frames s = table_of s.rows.now s.prepared.now

-- what is remembered is so of the judged frame
abbrev pub Remembers : Setting → List ℕ → Type 0
Remembers s memory = Remembered (frames s) s.target.frame memory

-- the judged frame is that of some row
pub listed : (s : Setting) → InTable (frames s) s.target.frame
listed s = listed-row s.posed.listed

-- then the searches are ready
pub ready : (s : Setting) {memory : List ℕ} → Remembers s memory → Ready s.rows.now s.prepared.now s.target memory
ready s remembered = record {
  prepared = s.posed.prepared;
  listed = listed s;
  blocked = s.posed.blocked;
  target = s.posed.target;
  cost = s.posed.cost;
  remembered = remembered;
}
