-- How code finds the first case that breaks a claim: group by group, rising, the first alignment with which some scenario exceeds the
-- claim. That is told by the greatest response with these alignments, which a search of the open groups finds.
use Prim.Native.Nat.{ℕ, ◌≤◌, ◌<◌}
use Rattle.std.specs.Prelude.{◌≡◌}
use mathlib.Core.List.{List, [], ◌∷◌, map, Memᴰ as Mem}
use Rattle.std.proofs.Math.ListN.{length}
use Rattle.arith.specs.Lists.{range}
use Rattle.bus_model.specs.Bounds.{groups, alignments, or_empty, choice_of, choices, scenarios}
use Rattle.bus_model.specs.Theory.Scenarios.{scenarios_of}
use Rattle.bus_model.specs.declared.Frame.{Frame}
use Rattle.bus_model.specs.declared.Choice.{Choice}
use Rattle.bus_model.specs.declared.Choice.TheVariants.{Fixed, Any}

-- ---- the scenarios with the alignments that are fixed

-- the choices for group j where it has this one: the same where it is fixed, each of its alignments where it is open
unfoldable pub completing : List Frame → Frame → ℕ → Choice → List Choice
completing fs k j (Fixed a) = Fixed a ∷ []
completing fs k j Any = map Fixed (or_empty (alignments fs k j))

-- the scenarios in which every group is fixed, those that cs fixes as in cs, in the order of `scenarios`
unfoldable pub completions : List Frame → Frame → List Choice → List (List Choice)
completions fs k cs = scenarios_of (λ j. completing fs k j (choice_of cs j))

-- ---- the groups before j are fixed, the others open

pub record Prefix (j : ℕ) (cs : List Choice) : Type 0 where
  pub long : length cs ≡ groups
  pub fixed : (i : ℕ) → Mem i (range 1 groups) → i < j → (a : ℕ) × (choice_of cs i ≡ Fixed a)
  pub left : (i : ℕ) → Mem i (range 1 groups) → j ≤ i → choice_of cs i ≡ Any
