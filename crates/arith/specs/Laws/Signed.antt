-- Signed numbers of 64 bits: a difference of two naturals, and what a register that holds one is read as.
use Rattle.std.specs.Prelude.{ℕ, zero, suc, ◌+◌, ◌-◌, ◌≤◌, ◌<◌, ◌^◌, ◌≡◌, refl, ℤ, pos, negsuc, ◌+ℤ◌, ◌-ℤ◌, neg_ℤ}
use Rattle.std.proofs.Common.{sym, ap, ◌∙◌, arith, lt-ltb, le-ltb, SFits, to_z, of_z, to_z-of_z}
use Rattle.std.proofs.Math.Decide.{dec_lt}
use Rattle.std.proofs.Math.IntN.{sub_ℕ, +ℤ_idl}
use Rattle.std.specs.Int.Signed.{mag}
use Rattle.std.specs.Int.{w64}

-- ---- a difference, by its sign

pub sub-le : (a b : ℕ) → b ≤ a → sub_ℕ a b ≡ pos (a - b)
sub-le a b h = rw (le-ltb a b h)

pub sub-lt : (a b : ℕ) → a < b → sub_ℕ a b ≡ negsuc (b - suc a)
sub-lt a b h = rw (lt-ltb a b h)

pub pos-sub : (a b : ℕ) → pos a -ℤ pos b ≡ sub_ℕ a b
pos-sub a zero = ap pos (omega arith) ∙ sym (sub-le a 0 (omega arith))
pos-sub a (suc b) = refl

-- A natural number plus a difference that does not take it below 0.
pub add-sub : (n a b : ℕ) → b ≤ n + a → pos n +ℤ (pos a -ℤ pos b) ≡ pos (n + a - b)
add-sub n a b h =
    rw (pos-sub a b)
    (elim (dec_lt a b) [
      | yes l ↦ rw (sub-lt a b l) (sub-le n (suc (b - suc a)) (omega arith) ∙ ap pos (omega arith))
      | no l ↦ rw (sub-le a b (omega arith)) (ap pos (omega arith))
    ])

-- ---- registers

-- The difference of two numbers of 63 bits fits.
pub sub-sfits : (a b : ℕ) → a < 2 ^ 63 → b < 2 ^ 63 → SFits w64 (pos a -ℤ pos b)
sub-sfits a b p q =
    rw (pos-sub a b)
    (elim (dec_lt a b) [
      | yes l ↦ rw (sub-lt a b l) (record { sfits = omega arith })
      | no l ↦ rw (sub-le a b (omega arith)) (record { sfits = omega arith })
    ])

-- A number of 63 bits, read as signed.
pub to_z_pos : (n : ℕ) → n < 2 ^ 63 → to_z w64 n ≡ pos n
to_z_pos n h = to_z-of_z {w = w64} {z = pos n} (record { sfits = h })

-- A signed number that was stored and is read back.
pub kept : (z : ℤ) → mag z < 2 ^ 63 → to_z w64 (of_z w64 z) ≡ z
kept z h = to_z-of_z {w = w64} {z = z} (record { sfits = h })

-- A number of 63 bits, negated.
pub neg-sfits : (n : ℕ) → n < 2 ^ 63 → SFits w64 (pos 0 -ℤ to_z w64 n)
neg-sfits n h = rw (to_z_pos n h) (sub-sfits 0 n (omega arith) h)

pub neg-kept : (n : ℕ) → n < 2 ^ 63 → to_z w64 (of_z w64 (pos 0 -ℤ to_z w64 n)) ≡ neg_ℤ (pos n)
neg-kept n h = to_z-of_z (neg-sfits n h) ∙ rw (to_z_pos n h) (+ℤ_idl (neg_ℤ (pos n)))
