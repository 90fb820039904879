-- `decimal::write_signed` meets its contract: which prefix is written goes by the number's sign.
use Prim.Native.Nat.{ℕ, ◌<◌}
use mathlib.Core.Path.{◌≡◌, ap, ◌∙◌}
use mathlib.Core.Bool.{true, false}
use mathlib.Core.List.{[]}
use native.Mathlib.Omega.{arith}
use borrow.Author.Tests.{ltb-true}
use lib.IntN.{ℤ, pos, negsuc, nat_abs}
use lib.Signed.{lt_z}
use mir.Facts.{to_z-of_z}
use Rattle.decimal.specs.declared.Prefix.TheVariants.{Number, Negative}
use Rattle.decimal.specs.Decimal.{written, write_signed}
use Rattle.decimal.proofs.write_signed.Goals as goal

negative : (w : ℕ) (z : ℤ) (n : ℕ) → lt_z z (pos 0) ≡ true → n ≡ nat_abs z → written w (Negative n) [] ≡ write_signed w z
unfolding write_signed
negative w (pos k) n e q = absurd (let l : k < 0 = ltb-true k 0 e in omega arith)
negative w (negsuc k) n e q = ap (λ (x : ℕ). written w (Negative x) []) q

positive : (w : ℕ) (z : ℤ) (n : ℕ) → lt_z z (pos 0) ≡ false → n ≡ nat_abs z → written w (Number n) [] ≡ write_signed w z
unfolding write_signed
positive w (pos k) n e q = ap (λ (x : ℕ). written w (Number x) []) q
positive w (negsuc k) n e q = absurd (let z : ◌≡◌ {A = ℕ} 0 1 = cc in omega arith)

pub returns-then-value-lt0 : goal.returns-then-value-lt0
returns-then-value-lt0 c =
    let f = c.ranges.value in
    c.write_prefix.ensures
    ∙ negative _ c.args.value _ (rw (to_z-of_z f) at c.if-value-lt0.true) (rw (to_z-of_z f) at c.unsigned_abs-n.ensures.value)

pub returns-else-value-lt0 : goal.returns-else-value-lt0
returns-else-value-lt0 c =
    let f = c.ranges.value in
    c.write_prefix-else-value-lt0.ensures
    ∙ positive _ c.args.value _ (rw (to_z-of_z f) at c.if-value-lt0.false) (rw (to_z-of_z f) at c.unsigned_abs-n.ensures.value)
