-- Where a search for a bound stands.
use Rattle.std.specs.Prelude.{ℕ, suc, min, ◌≡◌, List, Option, Some, None}
use Rattle.bus_model.specs.declared.Frame.{Frame}
use Rattle.bus_model.specs.declared.Faults.{Faults}
use Rattle.bus_model.specs.declared.Choice.{Choice}
use Rattle.bus_model.specs.declared.Choice.TheVariants.{Any}
use Rattle.bus_model.specs.Bounds.{choice_of}
use Rattle.bus_model.specs.Theory.Work.{RefinedBy}
use Rattle.bus_model.specs.Theory.Refine.{free}
use Rattle.response_time.specs.Load.{WindowWithin}

-- k's own group is still open, and those that are fixed stand at alignments of theirs
pub record OwnOpen (fs : List Frame) (k : Frame) (cs : List Choice) : Type 0 where
  pub refines : RefinedBy fs k free cs
  pub any : choice_of cs k.group ≡ Any

-- the scenario has a window, and it is not longer than the limit, where there is one
abbrev pub Limits : Faults → List Frame → Frame → List Choice → Option ℕ → Type 0
Limits faults fs k cs (Some l) = WindowWithin faults fs k cs l
Limits faults fs k cs None = Unit {0}

-- what a search for the greatest value found that may end above `enough`: up to there r is the greatest, and above it both are
abbrev pub Settles : ℕ → ℕ → ℕ → Type 0
Settles enough whole r = min (suc enough) r ≡ min (suc enough) whole
