-- The work of a scenario: it grows with time, as the load of faults does, it is least where every group's alignment is fixed,
-- and that of the frames ahead is that of the better ones and the frame's own.
use Prim.Native.Nat.{ℕ}
use Rattle.std.specs.Prelude.{◌≡◌}
use mathlib.Core.List.{List, Memᴰ as Mem}
use Rattle.arith.specs.Lists.{range}
use Rattle.bus_model.specs.Bounds.{groups, alignments, or_empty, choice_of, work}
use Rattle.bus_model.specs.declared.Frame.{Frame}
use Rattle.bus_model.specs.declared.Choice.{Choice}
use Rattle.bus_model.specs.declared.Choice.TheVariants.{Fixed, Any}

-- ---- fewer choices, less work

-- Of a group with these alignments, a choice allows another: the same, or where it leaves the alignment open any that the bounds look at.
unfoldable pub Allows : List ℕ → Choice → Choice → Type 0
Allows als (Fixed a) (Fixed b) = a ≡ b
Allows als (Fixed a) Any = ⊥
Allows als Any (Fixed b) = Mem b (or_empty als)
Allows als Any Any = Unit {0}

-- A scenario is refined by another: at each group its choice allows the other's.
abbrev pub RefinedBy : List Frame → Frame → List Choice → List Choice → Type 0
RefinedBy fs k cs cs' = (j : ℕ) → Mem j (range 1 groups) → Allows (alignments fs k j) (choice_of cs j) (choice_of cs' j)
