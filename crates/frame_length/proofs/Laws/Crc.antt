-- A CRC has 15 bits, and bits followed by their CRC leave the register at 0, as a receiver checks it.
use Prim.Native.Nat.{ℕ, zero, suc, ◌+◌, ◌-◌, ◌*◌, ◌/◌, ◌%◌, ◌^◌, ◌≤◌, ◌<◌}
use Rattle.std.specs.Prelude.{◌≡◌, refl, Bool, true, false, List, [], ◌∷◌, ◌++◌}
use Rattle.std.proofs.Math.Path.{ap, ap₂, sym}
use Rattle.std.proofs.Common.{◌∙◌, mod-lt, pow-suc, pow-add, pow_pos, shl_lt}
use Rattle.std.proofs.Math.Bool.{xor}
use Rattle.std.proofs.Math.Nat.{add-mul, mul_assoc}
use native.Mathlib.Omega.{arith}
use Rattle.std.proofs.lemmas.Nat.{xor_lt}
use Rattle.std.proofs.Math.Dec.{eqb}
use Rattle.std.proofs.Math.Pow.{mod-pow-add, high, low}
use Rattle.arith.specs.Laws.Tests.{by-test}
use Rattle.frame_length.specs.DataFrame.{bit, bits}
use Rattle.frame_length.specs.Crc.{crc_step, crc_from, crc_of}
use Rattle.frame_length.specs.FrameLength.{with_crc}

-- ---- 15 bits

step_fits : (crc : ℕ) (b : Bool) → crc_step crc b < 2 ^ 15
unfolding crc_step
step_fits crc b =
    let shifted : crc % 2 ^ 14 * 2 < 2 ^ 15 = omega arith in
    by-test (xor b (bit crc 14)) (λ e. rw e (xor_lt 15 (crc % 2 ^ 14 * 2) 0x4599 shifted (omega arith))) (λ e. rw e shifted)

from-fits : (crc : ℕ) (bs : List Bool) → crc < 2 ^ 15 → crc_from crc bs < 2 ^ 15
unfolding crc_from
from-fits crc [] h = h
from-fits crc (b ∷ bs) h = from-fits (crc_step crc b) bs (step_fits crc b)

pub crc-fits : (bs : List Bool) → crc_of bs < 2 ^ 15
unfolding crc_of
crc-fits bs = from-fits 0 bs (omega arith)

-- ---- the CRC after its bits

from-append : (crc : ℕ) (xs ys : List Bool) → crc_from crc (xs ++ ys) ≡ crc_from (crc_from crc xs) ys
unfolding crc_from
from-append crc [] ys = refl
from-append crc (b ∷ xs) ys = from-append (crc_step crc b) xs ys

xor_same : (b : Bool) → xor b b ≡ false
unfolding xor
xor_same true = refl
xor_same false = refl

-- the bit that leaves the register is the next one: the register is shifted and nothing more
step_same : (crc : ℕ) → crc_step crc (bit crc 14) ≡ crc % 2 ^ 14 * 2
unfolding crc_step
step_same crc = rw (xor_same (bit crc 14))

-- with w + 1 bits left, the register holds them at its top: the next bit, and then the others
module _ (w n : ℕ) (h : w ≤ 14) where
  next : ℕ
  next = n / 2 ^ w % 2

  others : ℕ
  others = n % 2 ^ w * 2 ^ (14 - w)

  register : n % 2 ^ suc w * 2 ^ (15 - suc w) ≡ next * 2 ^ 14 + others
  unfolding next others
  register =
      let fourteen : w + (14 - w) ≡ 14 = omega arith in
      let e : 2 ^ w * 2 ^ (14 - w) ≡ 2 ^ 14 = sym (pow-add 2 w (14 - w)) ∙ ap (λ (k : ℕ). 2 ^ k) fourteen in
      let s : suc w ≡ 1 + w = omega arith in
      let t : 15 - (1 + w) ≡ 14 - w = omega arith in
      rw (s, mod-pow-add n 1 w, t, add-mul, mul_assoc, e)

  others-fit : others < 2 ^ 14
  unfolding others
  others-fit = let e : w + (14 - w) ≡ 14 = omega arith in rw e at (shl_lt w (14 - w) (mod-lt n (pow_pos w)))

  shifted : crc_step (n % 2 ^ suc w * 2 ^ (15 - suc w)) (bit n w) ≡ n % 2 ^ w * 2 ^ (15 - w)
  unfolding next others
  shifted =
      let r = next * 2 ^ 14 + others in
      let e : n / 2 ^ w % 2 ≡ r / 2 ^ 14 % 2 = sym (ap (λ (q : ℕ). q % 2) (high next 14 others-fit) ∙ omega arith) in
      let k : 15 - w ≡ suc (14 - w) = omega arith in
      ap₂ crc_step register (ap (λ (q : ℕ). eqb q 1) e)
      ∙ step_same r
      ∙ ap (λ (q : ℕ). q * 2) (low next 14 others-fit)
      ∙ rw (k, pow-suc) (mul_assoc (n % 2 ^ w) (2 ^ (14 - w)) 2)

shifted-out : (w n : ℕ) → w ≤ 15 → crc_from (n % 2 ^ w * 2 ^ (15 - w)) (bits w n) ≡ 0
unfolding crc_from bits
shifted-out zero n h = omega arith
shifted-out (suc w) n h = ap (λ (c : ℕ). crc_from c (bits w n)) (shifted w n (omega arith)) ∙ shifted-out w n (omega arith)

pub crc-zero : (bs : List Bool) → crc_of (with_crc bs) ≡ 0
unfolding crc_of with_crc
crc-zero bs =
    let crc = crc_from 0 bs in
    let e : crc % 2 ^ 15 * 2 ^ (15 - 15) ≡ crc = omega (arith, crc-fits bs) in
    from-append 0 bs (bits 15 crc) ∙ (rw e at (shifted-out 15 crc (omega arith)))
