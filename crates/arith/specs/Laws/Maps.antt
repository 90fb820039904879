-- Sums, greatest values, selections, tests and least common multiples over the images of a list.
use Rattle.std.specs.Prelude.{ℕ, ◌+◌, max, ◌≡◌, Bool, ◌||◌}
use Rattle.std.proofs.Math.Path.{refl, ap}
use mathlib.Core.List.Memᴰ.{head as here}
use mathlib.Core.List.Memᴰ.{tail as there}
use mathlib.Core.List.{List, [], ◌∷◌, map, Memᴰ as Mem}
use Rattle.std.proofs.Math.Bool.{true, false, cond}
use Rattle.arith.specs.Lists.{sum, greatest, keep, exists}
use Rattle.arith.specs.Multiples.{lcm, lcm_of}

module _ {A B : Type 0} (h : A → B) where
  pub sum-map : (f : B → ℕ) (xs : List A) → sum f (map h xs) ≡ sum (λ x. f (h x)) xs
  unfolding sum
  sum-map f [] = refl
  sum-map f (x ∷ xs) = ap (λ (n : ℕ). f (h x) + n) (sum-map f xs)

  pub greatest-map : (f : B → ℕ) (xs : List A) → greatest f (map h xs) ≡ greatest (λ x. f (h x)) xs
  unfolding greatest
  greatest-map f [] = refl
  greatest-map f (x ∷ xs) = ap (max (f (h x))) (greatest-map f xs)

  pub lcm_of-map : (f : B → ℕ) (xs : List A) → lcm_of f (map h xs) ≡ lcm_of (λ x. f (h x)) xs
  unfolding lcm_of
  lcm_of-map f [] = refl
  lcm_of-map f (x ∷ xs) = ap (lcm (f (h x))) (lcm_of-map f xs)

  pub exists-map : (p : B → Bool) (xs : List A) → exists p (map h xs) ≡ exists (λ x. p (h x)) xs
  unfolding exists
  exists-map p [] = refl
  exists-map p (x ∷ xs) = ap (λ (b : Bool). p (h x) || b) (exists-map p xs)

  -- Where the images pass a test just where the elements pass another, those kept are the images of those kept.
  pub keep-map : (p : A → Bool) (q : B → Bool) (xs : List A) → ((x : A) → Mem x xs → q (h x) ≡ p x) → keep q (map h xs) ≡ map h (keep p xs)
  unfolding keep
  keep-map p q [] same = refl
  keep-map p q (x ∷ xs) same = rw (same x (here refl), keep-map p q xs (λ y m. same y (there m))) (go (p x))
    where
      go : (b : Bool) → cond b (h x ∷ map h (keep p xs)) (map h (keep p xs)) ≡ map h (cond b (x ∷ keep p xs) (keep p xs))
      go true = refl
      go false = refl
