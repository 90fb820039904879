-- Where the search for the case that breaks a claim stands (document 02, request 4).
use Rattle.std.specs.Prelude.{ℕ, ◌≡◌, List}
use Rattle.bus_model.specs.declared.Frame.{Frame}
use Rattle.bus_model.specs.declared.Faults.{Faults}
use Rattle.bus_model.specs.declared.Choice.{Choice}
use Rattle.bus_model.specs.Case.{first_among, first_case}
use Rattle.bus_model.specs.Theory.Work.{RefinedBy}
use Rattle.bus_model.specs.Theory.Refine.{free}
use Rattle.bus_model.specs.Theory.FirstCase.{completions, Prefix}

-- the groups before j stand at alignments of theirs, the others are open, and the first case of all is the first with these
pub record LeadsTo (faults : Faults) (fs : List Frame) (k : Frame) (claim j : ℕ) (cs : List Choice) : Type 0 where
  pub prefix : Prefix j cs
  pub refines : RefinedBy fs k free cs
  pub first : first_among faults fs k claim (completions fs k cs) ≡ first_case faults fs k claim
