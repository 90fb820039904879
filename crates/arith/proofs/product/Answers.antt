-- A product within the limits of its factors.
use Prim.Native.Nat.{◌*◌, ◌≤◌}
use mathlib.Core.Path.{refl}
use native.Mathlib.Nat.{mul-le-mul}
use native.Mathlib.Omega.{arith}
use borrow.Author.Rules.{rules}
use Rattle.arith.proofs.product.Goals as goal
use Rattle.arith.proofs.product.Goals.{Start}

small : (c : Start) → c.args.a * c.args.b ≤ 4294967295 * 4294967295
small c = mul-le-mul {n₂ = 4294967295} {m₂ = 4294967295} (search rules) (search rules)

pub overflow_mul-result : goal.overflow_mul-result
overflow_mul-result c = omega (arith, small c)

pub returns : goal.returns
returns c = record { value = refl; small = small c }
