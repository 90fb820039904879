-- A seed other than 0 never draws 0: each of the three shifts keeps a number of 32 bits above 0, and within 32 bits.
use Rattle.std.specs.Prelude.{ℕ, ◌+◌, ◌*◌, ◌/◌, ◌%◌, ◌^◌, ◌<◌, ◌≡◌}
use Rattle.std.proofs.Common.{arith}
use Rattle.std.proofs.Math.Decide.{dec_lt}
use Rattle.std.specs.Int.Bits.{bit_xor, xor_add_and}
use Rattle.std.proofs.lemmas.Nat.{xor_lt, and_le_l, and_le_r}
use Rattle.generator.specs.Draw.{leftward, rightward, draw_from}

-- a number of 32 bits other than 0
abbrev pub Drawable : ℕ → Type 0
Drawable v = (0 < v) × (v < 2 ^ 32)

-- numbers that differ in no bit are equal
xor-none : (a b : ℕ) → bit_xor a b ≡ 0 → a ≡ b
xor-none a b e = omega (arith, e, xor_add_and a b, and_le_l a b, and_le_r a b)

xor-some : (a b : ℕ) → a < 2 ^ 32 → b < 2 ^ 32 → (a ≡ b → ⊥) → Drawable (bit_xor a b)
xor-some a b la lb ne =
    (elim (dec_lt 0 (bit_xor a b)) [ yes h ↦ h | no h ↦ absurd (ne (xor-none a b (omega arith))) ], xor_lt 32 a b la lb)

-- a number of 32 bits that is a multiple of 2 ^ 32
no-multiple : (v a b : ℕ) → v < 2 ^ 32 → v + 2 ^ 32 * a ≡ 2 ^ 32 * b → v ≡ 0
no-multiple v a b l e = omega arith

-- a number that equals its shift by n is 2 ^ n times itself, and so as often as one likes, but for multiples of 2 ^ 32
none-13 : (v : ℕ) → v < 2 ^ 32 → v ≡ v * 2 ^ 13 % 2 ^ 32 → v ≡ 0
none-13 v l e = let q : ℕ = v * 2 ^ 13 / 2 ^ 32 in no-multiple v (q * (1 + 2 ^ 13 + 2 ^ 26)) (v * 2 ^ 7) l (omega arith)

none-5 : (v : ℕ) → v < 2 ^ 32 → v ≡ v * 2 ^ 5 % 2 ^ 32 → v ≡ 0
none-5 v l e =
    let q : ℕ = v * 2 ^ 5 / 2 ^ 32 in
    no-multiple v (q * (1 + 2 ^ 5 + 2 ^ 10 + 2 ^ 15 + 2 ^ 20 + 2 ^ 25 + 2 ^ 30)) (v * 2 ^ 3) l (omega arith)

left-13 : (v : ℕ) → Drawable v → Drawable (leftward 13 v)
unfolding leftward
left-13 v d = xor-some v (v * 2 ^ 13 % 2 ^ 32) d.1 (omega arith) (λ e. omega (arith, d.0, none-13 v d.1 e))

right-17 : (v : ℕ) → Drawable v → Drawable (rightward 17 v)
unfolding rightward
right-17 v d = xor-some v (v / 2 ^ 17) d.1 (omega (arith, d.1)) (λ e. omega (arith, d.0, d.1, e))

left-5 : (v : ℕ) → Drawable v → Drawable (leftward 5 v)
unfolding leftward
left-5 v d = xor-some v (v * 2 ^ 5 % 2 ^ 32) d.1 (omega arith) (λ e. omega (arith, d.0, none-5 v d.1 e))

-- what is drawn from such a number is one again
pub never-zero : (v : ℕ) → Drawable v → Drawable (draw_from v)
unfolding draw_from
never-zero v d = left-5 _ (right-17 _ (left-13 v d))
