-- `arith::lcm` meets its contract: the product fits, since both factors are 32-bit numbers.
use Prim.Native.Nat.{ℕ, ◌*◌, ◌/◌, ◌^◌, ◌-◌, ◌<◌, ◌≤◌}
use native.Mathlib.Nat.{mul-le-mul, div-le_self, lt_of_le_of_lt}
use native.Mathlib.Omega.{arith}
use lib.Dec.{lit<}
use Rattle.arith.specs.Multiples.{lcm}
use Rattle.arith.specs.Laws.Multiples.{gcd-pos}
use Rattle.arith.proofs.lcm.Goals as goal

product : (a b g : ℕ) → a < 2 ^ 32 → b < 2 ^ 32 → a * (b / g) < 2 ^ 64
product a b g h k =
    let a' : a ≤ 2 ^ 32 - 1 = omega arith in
    let b' : b / g ≤ 2 ^ 32 - 1 = omega (arith, div-le_self b g) in
    lt_of_le_of_lt (mul-le-mul a' b') (lit< tt)

pub nonzero_div-result : goal.nonzero_div-result
nonzero_div-result c = rw c.gcd-g.ensures (gcd-pos _ _ c.requires.1)

pub overflow_mul-result : goal.overflow_mul-result
overflow_mul-result c = record { fits = product _ _ _ c.requires.0 c.requires.2 }

pub returns : goal.returns
unfolding lcm
returns c = rw c.gcd-g.ensures
