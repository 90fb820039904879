-- The levels between the rough bound and the exact one (document 02, request 13): "fix alignments for k's group, then for the others
-- rising, one group more at each level; groups not yet fixed contribute as in the rough bound".
-- Level m fixes k's own group and m others, so that level 0 is the rough bound's and the last the exact one's.
use Rattle.std.specs.Prelude.{ℕ, suc, List, ◌∷◌, Bool, not, eqb, length, take}
use Rattle.arith.specs.Lists.{product, keep, exists, range}
use Rattle.bus_model.specs.Bounds.{groups, alignments, or_empty, bound_of}
use Rattle.bus_model.specs.declared.Frame.{Frame}
use Rattle.bus_model.specs.declared.Faults.{Faults}

-- the order in which groups are fixed: k's own, then the others, rising
unfoldable pub fixing_order : Frame → List ℕ
fixing_order k = k.group ∷ keep (λ j. not (eqb j k.group)) (range 1 groups)

-- the groups that level m fixes
unfoldable pub fixed_at : Frame → ℕ → List ℕ
fixed_at k m = take (suc m) (fixing_order k)

-- whether level m fixes group j
abbrev pub fixes : Frame → ℕ → ℕ → Bool
fixes k m j = exists (eqb j) (fixed_at k m)

-- the bound of level m, under a premise about faults
unfoldable pub level_bound : Faults → List Frame → Frame → ℕ → ℕ
level_bound faults fs k m = bound_of faults fs k (fixes k m)

-- its "product of fixed alignments"
unfoldable pub level_count : List Frame → Frame → ℕ → ℕ
level_count fs k m = product (λ j. length (or_empty (alignments fs k j))) (fixed_at k m)
