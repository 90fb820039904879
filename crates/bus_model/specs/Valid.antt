-- What the checks on tables establish, as far as the bus rule and the bounds need it.
-- Document 01's limits on periods, offsets and lengths from above play no part here.
use Rattle.std.specs.Prelude.{ℕ, ◌≤◌, ◌<◌, ◌≡◌, List, length}
use Rattle.bus_model.specs.Frame.{row}
use Rattle.bus_model.specs.declared.Frame.{Frame}
use Rattle.bus_model.specs.declared.Faults.{Faults}
use Rattle.bus_model.specs.declared.Faults.TheVariants.{Never, Apart}

-- a frame
pub record ValidFrame (g : Frame) : Type 0 where
  pub period : 1 ≤ g.period
  pub length : 1 ≤ g.length
  pub group-low : 1 ≤ g.group
  pub group-high : g.group ≤ 16

-- a table: every frame is valid, and no two rows have the same priority
pub record Valid (fs : List Frame) : Type 0 where
  pub frame : (i : ℕ) → i < length fs → ValidFrame (row fs i)
  pub distinct : (i j : ℕ) → i < length fs → j < length fs → (row fs i).priority ≡ (row fs j).priority → i ≡ j

-- no frame begins late: each offset is below its period, as document 01 had it before late starters (document 02, 7)
abbrev pub Early : List Frame → Type 0
Early fs = (i : ℕ) → i < length fs → (row fs i).offset < (row fs i).period

-- A premise about faults: a gap is not 0.
unfoldable pub ValidFaults : Faults → Type 0
ValidFaults Never = Unit {0}
ValidFaults (Apart g) = 1 ≤ g
