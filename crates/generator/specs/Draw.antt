-- The generator of document 02, request 12: a number of 32 bits, whose steps are the numbers given.
use Rattle.std.specs.Prelude.{ℕ, ◌*◌, ◌/◌, ◌%◌, ◌^◌, ◌≡◌, refl}
use Rattle.std.specs.Int.Bits.{bit_xor}

-- "v ^= v << n, keeping the low 32 bits"
unfoldable pub leftward : ℕ → ℕ → ℕ
leftward n v = bit_xor v (v * 2 ^ n % 2 ^ 32)

-- "v ^= v >> n"
unfoldable pub rightward : ℕ → ℕ → ℕ
rightward n v = bit_xor v (v / 2 ^ n)

-- "v ^= v << 13, v ^= v >> 17, v ^= v << 5": what is drawn next, and what is drawn from then
unfoldable pub draw_from : ℕ → ℕ
draw_from v = leftward 5 (rightward 17 (leftward 13 v))

-- the first draws from 1, and what is drawn first from the seed that Marsaglia gives (Xorshift RNGs, 2003)
first : draw_from 1 ≡ 270_369
unfolding draw_from leftward rightward
first = refl

second : draw_from 270_369 ≡ 67_634_689
unfolding draw_from leftward rightward
second = refl

published : draw_from 2_463_534_242 ≡ 723_471_715
unfolding draw_from leftward rightward
published = refl
