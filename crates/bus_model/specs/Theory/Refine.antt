-- The bounds found group by group: one group after the other takes each of its alignments, and the greatest response counts.
-- A branch may be left out where its scenario with the open groups at `Any` has no greater response than one already found.
use Prim.Native.Nat.{ℕ, ◌-◌}
use Rattle.std.specs.Prelude.{set, replicate}
use mathlib.Core.List.{List, [], ◌∷◌}
use Rattle.arith.specs.Lists.{greatest}
use Rattle.bus_model.specs.Bounds.{groups, alignments, or_empty, scenario_response}
use Rattle.bus_model.specs.declared.Frame.{Frame}
use Rattle.bus_model.specs.declared.Faults.{Faults}
use Rattle.bus_model.specs.declared.Choice.{Choice}
use Rattle.bus_model.specs.declared.Choice.TheVariants.{Fixed, Any}

-- ---- group by group

-- the greatest response where the groups js take each of their alignments, one after the other, and the others stand as in cs
unfoldable pub refined : Faults → List Frame → Frame → List ℕ → List Choice → ℕ
refined faults fs k [] cs = scenario_response faults fs k cs
refined faults fs k (j ∷ js) cs = greatest (λ a. refined faults fs k js (set cs (j - 1) (Fixed a))) (or_empty (alignments fs k j))

-- no group is fixed
abbrev pub free : List Choice
free = replicate groups Any
