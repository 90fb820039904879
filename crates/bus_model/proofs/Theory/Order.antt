-- The order in which a search fixes the groups: k's own, then the others, rising. It has each group once.
use Rattle.std.specs.Prelude.{ℕ, ◌≤◌, eqb, length}
use Rattle.std.proofs.Math.Path.{subst}
use mathlib.Core.List.Memᴰ.{head as here}
use mathlib.Core.List.Memᴰ.{tail as there}
use mathlib.Core.List.{Memᴰ as Mem}
use Rattle.std.proofs.Math.Bool.{not}
use Rattle.std.proofs.Common.{arith}
use Rattle.std.proofs.Math.Decide.{ℕ_discrete}
use Rattle.std.proofs.Math.Dec.{T}
use Rattle.arith.specs.Lists.{range}
use Rattle.arith.specs.Laws.Tests.{itself, differs}
use Rattle.arith.specs.Laws.Members.{Apart, apart-keep, apart-range, mem-keep, of-keep, keep-shorter, length-range}
use Rattle.bus_model.specs.Valid.{ValidFrame}
use Rattle.bus_model.specs.Bounds.{groups}
use Rattle.bus_model.specs.Levels.{fixing_order}
use Rattle.bus_model.proofs.Theory.Frames.{group-listed}
use Rattle.bus_model.specs.declared.Frame.{Frame}

module _ {k : Frame} (valid : ValidFrame k) where
  -- It has groups alone,
  pub order-group : {j : ℕ} → Mem j (fixing_order k) → Mem j (range 1 groups)
  unfolding fixing_order
  order-group (here e) = rw e (group-listed valid)
  order-group (there m) = (of-keep _ (range 1 groups) m).0

  -- every one,
  pub order-all : {j : ℕ} → Mem j (range 1 groups) → Mem j (fixing_order k)
  unfolding fixing_order
  order-all {j} m =
      elim (ℕ_discrete j k.group) [
        | yes e ↦ here e
        | no other ↦ there (mem-keep _ m (differs j k.group other))
      ]

  -- and none twice:
  pub order-apart : Apart (fixing_order k)
  unfolding Apart fixing_order
  order-apart = (
    λ m. subst T (itself k.group) (of-keep (λ j. not (eqb j k.group)) (range 1 groups) m).1,
    apart-keep (λ j. not (eqb j k.group)) (range 1 groups) (apart-range 1 groups),
  )

  -- there are no more than groups.
  pub order-length : length (fixing_order k) ≤ groups
  unfolding fixing_order range
  order-length = omega (arith, keep-shorter (λ j. not (eqb j k.group)) (group-listed valid) (subst T (itself k.group)), length-range 1 groups)
