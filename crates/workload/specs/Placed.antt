-- The frames that load a scenario, placed for a search: each as if its group's alignment were at 0. Faults are one frame more.
use Rattle.std.specs.Prelude.{◌≡◌, ℕ, ◌-◌, ◌*◌, ◌≤◌, Bool, List, [], ◌∷◌, ◌++◌, map, length}
use mathlib.Core.List.{Memᴰ as Mem}
use Rattle.arith.specs.Lists.{sum, keep, range}
use Rattle.arith.specs.Releases.{releases_before}
use Rattle.bus_model.specs.declared.Frame.{Frame}
use Rattle.bus_model.specs.declared.Faults.{Faults}
use Rattle.bus_model.specs.declared.Faults.TheVariants.{Never, Apart}
use Rattle.bus_model.specs.declared.Choice.{Choice}
use Rattle.bus_model.specs.declared.Choice.TheVariants.{Fixed, Any}
use Rattle.bus_model.specs.Bounds.{groups, is_ahead, is_better, distance, choice_of}
use Rattle.workload.specs.declared.Search.{Search}
use Rattle.workload.specs.declared.Search.TheVariants.{Window, Instance}
use Rattle.workload.specs.declared.Target.{Target}
use Rattle.workload.specs.declared.placed.PlacedFrame.{PlacedFrame}
use Rattle.workload.specs.Faults.{lead_of}

-- a placed frame: its length, its period and its first release
pub record Placed : Type 0 where
  pub length : ℕ
  pub period : ℕ
  pub first : ℕ

-- one of two answers: that for a window, or that for a start
abbrev pub by_search : Search → Bool → Bool → Bool
by_search Window window start = window
by_search (Instance q) window start = start

-- whether a frame is one of those that load a window, those ahead, or a start, the better ones
abbrev pub is_load : Search → Frame → Frame → Bool
is_load search k g = by_search search (is_ahead k g) (is_better k g)

-- how long after the start a frame is released first: its distance where its group's alignment is fixed, and at once where that is open
unfoldable pub first_release : Choice → Frame → ℕ
first_release (Fixed a) g = distance g a
first_release Any g = 0

-- the frame as it is placed by its group's choice
abbrev pub placed_by : Choice → Frame → Placed
placed_by choice g = record { length = g.length; period = g.period; first = first_release choice g }

-- the same, by the choice of its group among those of all
unfoldable pub placed_frame : List Choice → Frame → Placed
placed_frame cs g = placed_by (choice_of cs g.group) g

-- all of them
abbrev pub placed_frames : List Frame → Frame → Search → List Choice → List Placed
placed_frames fs k search cs = map (placed_frame cs) (keep (is_load search k) fs)

-- the faults as one frame more: those in the first ticks, for which no releases are counted, are left out, and the next comes after these
abbrev pub fault_frame : ℕ → ℕ → ℕ → Placed
fault_frame cost gap lead = record { length = cost; period = gap; first = releases_before 0 gap lead * gap - lead }

unfoldable pub fault_frames : Faults → ℕ → ℕ → List Placed
fault_frames Never cost lead = []
fault_frames (Apart gap) cost lead = fault_frame cost gap lead ∷ []

abbrev pub placed_faults : Target → Search → List Placed
placed_faults t search = fault_frames t.faults t.cost (lead_of search t.frame)

-- both
abbrev pub placed_out : List Frame → Target → Search → List Choice → List Placed
placed_out fs t search cs = placed_frames fs t.frame search cs ++ placed_faults t search

-- the lengths of the releases in the first n ticks, of one and of all
abbrev pub placed_demand : ℕ → Placed → ℕ
placed_demand n g = g.length * releases_before g.first g.period n

unfoldable pub placed_work : List Placed → ℕ → ℕ
placed_work gs n = sum (placed_demand n) gs

-- every group's alignment is fixed
abbrev pub AllFixed : List Choice → Type 0
AllFixed cs = (j : ℕ) → Mem j (range 1 groups) → (a : ℕ) × (choice_of cs j ≡ Fixed a)

-- placed frames within the limits that keep the sums small
pub record FineOne (g : Placed) : Type 0 where
  pub length_high : g.length ≤ 431
  pub period-low : 1 ≤ g.period
  pub period-high : g.period ≤ 1000000

pub record FinePlaced (gs : List Placed) : Type 0 where
  pub few : length gs ≤ 65
  pub fine : (g : Placed) → Mem g gs → FineOne g

-- ---- in memory, beside an inverse of the period, of which nothing is promised

-- the frame at a place
abbrev pub placed_at : PlacedFrame → Placed
placed_at p = record { length = p.length; period = p.period; first = p.first }

unfoldable pub placed_in : List PlacedFrame → List Placed
placed_in ps = map placed_at ps
