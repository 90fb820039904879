-- Euclid's algorithm gives the greatest common divisor, and the least common multiple is one: both numbers divide it,
-- and it divides every number that both divide. The same for a list.
use Rattle.std.specs.Prelude.{ℕ, zero, suc, ◌+◌, ◌*◌, ◌/◌, ◌%◌, ◌≤◌, ◌<◌, ◌≡◌, refl}
use Rattle.std.specs.Int.{◌∣◌}
use Rattle.std.proofs.Common.{sym, ap, ◌∙◌, mod-lt, mul-add, mul_assoc, mul_comm, le-mul_of_pos_right, not-suc-le-zero, zero-lt-suc}
use mathlib.Core.List.Memᴰ.{head as here}
use mathlib.Core.List.Memᴰ.{tail as there}
use mathlib.Core.List.{List, [], ◌∷◌, Memᴰ as Mem}
use Rattle.std.proofs.Math.Nat.{dvd_refl, dvd-zero, dvd_trans, dvd-mod_iff, dvd-mul_right, dvd-mul_left, dvd-mul_right_of_dvd, dvd-add_iff_right, div-add-mod, mul-dvd-mul_left, mul-dvd-mul_right, dvd_of_mul-dvd-mul_right, div-mul_cancel, mul-div_cancel', pos_of_dvd_of_pos, one-mul}
use native.Mathlib.Omega.{arith}
use Rattle.arith.specs.Multiples.{euclid, gcd, lcm, lcm_of}

-- ---- the steps of Euclid's algorithm

-- A remainder is small enough for the steps that are left.
rest_le : (f a b : ℕ) → suc b ≤ suc f → a % suc b ≤ f
rest_le f a b h = let m : a % suc b < suc b = mod-lt a (zero-lt-suc b) in omega arith

-- More steps than enough change nothing.
enough : (f g a b : ℕ) → b ≤ f → b ≤ g → euclid f a b ≡ euclid g a b
unfolding euclid
enough zero zero a b h k = refl
enough zero (suc g) a zero h k = refl
enough zero (suc g) a (suc b) h k = absurd (not-suc-le-zero h)
enough (suc f) zero a zero h k = refl
enough (suc f) zero a (suc b) h k = absurd (not-suc-le-zero k)
enough (suc f) (suc g) a zero h k = refl
enough (suc f) (suc g) a (suc b) h k = enough f g (suc b) (a % suc b) (rest_le f a b h) (rest_le g a b k)

-- The last step.
pub gcd-zero : (a : ℕ) → gcd a 0 ≡ a
unfolding gcd euclid
gcd-zero a = refl

-- Any other step.
pub gcd-step : (a b : ℕ) → 0 < b → gcd b (a % b) ≡ gcd a b
unfolding gcd euclid
gcd-step a zero h = absurd (not-suc-le-zero h)
gcd-step a (suc b) h = enough (a % suc b) b (suc b) (a % suc b) (omega arith) (rest_le b a b (omega arith))

-- ---- the greatest common divisor

divides : (f a b : ℕ) → b ≤ f → (euclid f a b ∣ a) × (euclid f a b ∣ b)
unfolding euclid
divides zero a zero h = (dvd_refl a, dvd-zero a)
divides zero a (suc b) h = absurd (not-suc-le-zero h)
divides (suc f) a zero h = (dvd_refl a, dvd-zero a)
divides (suc f) a (suc b) h =
    let d = divides f (suc b) (a % suc b) (rest_le f a b h) in
    ((dvd-mod_iff _ d.0).0 d.1, d.0)

-- It divides both numbers.
pub gcd-divides : (a b : ℕ) → (gcd a b ∣ a) × (gcd a b ∣ b)
unfolding gcd
gcd-divides a b = divides b a b (omega arith)

-- It is not 0.
pub gcd-pos : (a b : ℕ) → 0 < b → 0 < gcd a b
gcd-pos a b h = pos_of_dvd_of_pos (gcd-divides a b).1 h

-- What divides m times both numbers divides m times their greatest common divisor.
into : (d m f a b : ℕ) → b ≤ f → d ∣ m * a → d ∣ m * b → d ∣ m * euclid f a b
unfolding euclid
into d m zero a b h p q = p
into d m (suc f) a zero h p q = p
into d m (suc f) a (suc b) h p q =
    let whole : m * a ≡ m * suc b * (a / suc b) + m * (a % suc b)
    = ap (λ (x : ℕ). m * x) (sym (div-add-mod a (suc b))) ∙ mul-add m (suc b * (a / suc b)) (a % suc b) ∙ ap (λ (x : ℕ). x + m * (a % suc b)) (sym (mul_assoc m (suc b) (a / suc b))) in
    into d m f (suc b) (a % suc b) (rest_le f a b h) q
    ((dvd-add_iff_right d (dvd-mul_right_of_dvd d q (a / suc b))).1 (rw whole at p))

-- ---- the least common multiple of two numbers

lcm-gcd : (a b : ℕ) → lcm a b * gcd a b ≡ a * b
unfolding lcm
lcm-gcd a b = mul_assoc a (b / gcd a b) (gcd a b) ∙ ap (λ (x : ℕ). a * x) (div-mul_cancel (gcd a b) (gcd-divides a b).1)

-- It divides every common multiple.
pub lcm-least : (a b m : ℕ) → 0 < b → a ∣ m → b ∣ m → lcm a b ∣ m
unfolding gcd
lcm-least a b m h p q =
    let whole : a * b ∣ m * gcd a b
    = into (a * b) m b a b (omega arith) (rw (mul_comm m a) (mul-dvd-mul_left b a q)) (mul-dvd-mul_right a p b) in
    dvd_of_mul-dvd-mul_right (lcm a b) (gcd-pos a b h) (rw (lcm-gcd a b) whole)

-- The same, written the other way round.
lcm-other : (a b : ℕ) → lcm a b ≡ a / gcd a b * b
unfolding lcm
lcm-other a b =
    let g : ℕ = gcd a b in
    ap (λ (x : ℕ). x * (b / g)) (sym (div-mul_cancel g (gcd-divides a b).0))
    ∙ mul_assoc (a / g) g (b / g) ∙ ap (λ (x : ℕ). a / g * x) (mul-div_cancel' g (gcd-divides a b).1)

-- Both numbers divide it.
pub lcm-multiple : (a b : ℕ) → (a ∣ lcm a b) × (b ∣ lcm a b)
lcm-multiple a b = (unfold lcm in dvd-mul_right a (b / gcd a b), rw lcm-other (dvd-mul_left b (a / gcd a b)))

quotient-pos : (d m : ℕ) → d ∣ m → 0 < m → 0 < m / d
quotient-pos d m p h = pos_of_dvd_of_pos (rw (div-mul_cancel d p) at (dvd-mul_right (m / d) d)) h

-- It is at least the first.
pub lcm-ge : (a b : ℕ) → 0 < b → a ≤ lcm a b
unfolding lcm
lcm-ge a b h = le-mul_of_pos_right a (quotient-pos (gcd a b) b (gcd-divides a b).1 h)

-- It is at least the second.
pub lcm-ge-second : (a b : ℕ) → 0 < a → b ≤ lcm a b
lcm-ge-second a b h = rw (lcm-other a b, mul_comm (a / gcd a b) b) (le-mul_of_pos_right b (quotient-pos (gcd a b) a (gcd-divides a b).0 h))

-- ---- the least common multiple over a list

module _ {A : Type 0} (f : A → ℕ) where
  -- The value of each element divides it.
  pub divides-lcm_of : {x : A} (xs : List A) → Mem x xs → f x ∣ lcm_of f xs
  unfolding lcm_of
  divides-lcm_of {x = x} [] x'' = elim x'' [ ]
  divides-lcm_of (y ∷ ys) (here e) = rw e (lcm-multiple (f y) (lcm_of f ys)).0
  divides-lcm_of {x} (y ∷ ys) (there m) = dvd_trans (f x) (divides-lcm_of ys m) (lcm-multiple (f y) (lcm_of f ys)).1

  -- It is not 0 where no value is.
  pub lcm_of-pos : (xs : List A) → ((x : A) → Mem x xs → 1 ≤ f x) → 1 ≤ lcm_of f xs
  unfolding lcm_of
  lcm_of-pos [] pos = omega arith
  lcm_of-pos (x ∷ xs) pos = omega (arith, pos x (here refl), lcm-ge (f x) (lcm_of f xs) (lcm_of-pos xs (λ y m. pos y (there m))))

  -- It divides every number that all the values divide.
  pub lcm_of-least : (xs : List A) (m : ℕ) → ((x : A) → Mem x xs → 1 ≤ f x) → ((x : A) → Mem x xs → f x ∣ m) → lcm_of f xs ∣ m
  unfolding lcm_of
  lcm_of-least [] m pos all = rw one-mul at (dvd-mul_right 1 m)
  lcm_of-least (x ∷ xs) m pos all =
      let later = lcm_of-least xs m (λ y l. pos y (there l)) (λ y l. all y (there l)) in
      lcm-least (f x) (lcm_of f xs) m (lcm_of-pos xs (λ y l. pos y (there l))) (all x (here refl)) later
