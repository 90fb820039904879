-- A search that fixes the open groups of a scenario one after the other: k's own first, then the others, rising.
-- From no group fixed it finds the bounds, and from some alignments the greatest response with these.
use Prim.Native.Nat.{ℕ}
use mathlib.Core.List.{List}
use Rattle.std.specs.Prelude.{Bool, take, Option, Some}
use Rattle.std.proofs.Math.Bool.{true, false, cond}
use Rattle.arith.specs.Lists.{greatest, keep}
use Rattle.arith.specs.Least.{least}
use Rattle.bus_model.specs.Bounds.{groups, alignments, choice_of}
use Rattle.bus_model.specs.Levels.{fixing_order}
use Rattle.bus_model.specs.Theory.Refine.{refined}
use Rattle.bus_model.specs.declared.Frame.{Frame}
use Rattle.bus_model.specs.declared.Faults.{Faults}
use Rattle.bus_model.specs.declared.Choice.{Choice}
use Rattle.bus_model.specs.declared.Choice.TheVariants.{Fixed, Any}

-- whether a choice leaves the alignment open
abbrev pub is_any : Choice → Bool
is_any (Fixed a) = false
is_any Any = true

-- whether group j is open
abbrev pub is_open : List Choice → ℕ → Bool
is_open cs j = is_any (choice_of cs j)

-- the open groups, in the order in which they are fixed
unfoldable pub open_groups : Frame → List Choice → List ℕ
open_groups k cs = keep (is_open cs) (fixing_order k)

-- the first of them: k's own where it is open, and otherwise the least
unfoldable pub next_open : Frame → List Choice → Option ℕ
next_open k cs = cond (is_open cs k.group) (Some k.group) (least (is_open cs) groups 1)

-- the greatest response where m open groups more take each of their alignments
unfoldable pub fixing_more : Faults → List Frame → Frame → ℕ → List Choice → ℕ
fixing_more faults fs k m cs = refined faults fs k (take m (open_groups k cs)) cs
