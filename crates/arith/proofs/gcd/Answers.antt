use Prim.Native.Nat.{ℕ, ◌≤◌}
use mathlib.Core.Path.{◌≡◌, refl, ◌∙◌}
use native.Mathlib.Nat.{mod-lt}
use native.Mathlib.Omega.{arith}
use Rattle.arith.specs.Multiples.{gcd}
use Rattle.arith.specs.Laws.Multiples.{gcd-zero, gcd-step}
use Rattle.arith.proofs.gcd.Goals as goal

pub loop-y-init : goal.loop-y-init
loop-y-init c = refl

pub loop-y-smaller : goal.loop-y-smaller
loop-y-smaller c = mod-lt _ c.loop-y-test.true

pub loop-y-preserved : goal.loop-y-preserved
loop-y-preserved c = gcd-step _ _ c.loop-y-test.true ∙ c.loop-y.invariant

pub returns : goal.returns
returns c = done _ _ c.loop-y-test.false ∙ c.loop-y.invariant
  where
    done : (x y : ℕ) → y ≤ 0 → x ≡ gcd x y
    done x y h = let e : y ≡ 0 = omega arith in rw (e, gcd-zero)
