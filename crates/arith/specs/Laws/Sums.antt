-- Laws of sums, products and greatest values, over lists and over the places of a list.
-- A sum over what a test keeps is a sum over the whole list in which the rest counts 0.
use Prim.Native.Nat.{ℕ, zero, suc, ◌+◌, ◌*◌, ◌≤◌, ◌<◌, min}
use Rattle.std.specs.Prelude.{◌≡◌, Bool, not, ◌≢◌, T, eqb, length, get_or, take}
use Rattle.std.proofs.Math.Path.{refl, ap₂}
use Rattle.std.proofs.Common.{sym, ◌∙◌, ap, inl, inr, mul-le-mul_left, mul_assoc, mul_left_comm, mul-zero, mul-suc}
use mathlib.Core.List.Memᴰ
use mathlib.Core.List.Memᴰ.{head as here}
use mathlib.Core.List.Memᴰ.{tail as there}
use mathlib.Core.List.{List, [], ◌∷◌, ◌++◌, Memᴰ as Mem}
use Rattle.std.proofs.Math.Bool.{true, false, cond}
use native.Mathlib.Omega.{arith}
use Rattle.std.proofs.Math.Decide.{ℕ_discrete, dec_le, dec_lt}
use Rattle.std.proofs.Math.Nat.{one-le-mul}
use Rattle.arith.specs.Lists.{sum, product, greatest, keep, range}
use Rattle.arith.specs.Laws.Members.{Apart, keep_all, of_range}
use Rattle.arith.specs.Laws.Tests.{differs, itself}

module _ {A : Type 0} where
  -- ---- sums

  -- Where each term is at most another's, so is the sum.
  pub sum-le : {f g : A → ℕ} (xs : List A) → ((x : A) → Mem x xs → f x ≤ g x) → sum f xs ≤ sum g xs
  unfolding sum
  sum-le [] le = omega arith
  sum-le (x ∷ xs) le = omega (arith, le x (here refl), sum-le xs (λ y m. le y (there m)))

  -- The sum over two lists is that over the one and that over the other.
  pub sum-append : (f : A → ℕ) (xs ys : List A) → sum f (xs ++ ys) ≡ sum f xs + sum f ys
  unfolding sum
  sum-append f [] ys = omega arith
  sum-append f (x ∷ xs) ys = let rest = sum-append f xs ys in omega arith

  -- Where each term is another's, so is the sum.
  pub sum_same : {f g : A → ℕ} (xs : List A) → ((x : A) → Mem x xs → f x ≡ g x) → sum f xs ≡ sum g xs
  unfolding sum
  sum_same [] same = refl
  sum_same (x ∷ xs) same = ap₂ ◌+◌ (same x (here refl)) (sum_same xs (λ y m. same y (there m)))

  -- Where each term is 0, so is the sum.
  pub sum-none : {f : A → ℕ} (xs : List A) → ((x : A) → Mem x xs → f x ≡ 0) → sum f xs ≡ 0
  unfolding sum
  sum-none [] none = refl
  sum-none (x ∷ xs) none = omega (arith, none x (here refl), sum-none xs (λ y m. none y (there m)))

  -- Where no term is above b, the sum is at most b for each element.
  pub sum_bound : (f : A → ℕ) (b : ℕ) (xs : List A) → ((x : A) → Mem x xs → f x ≤ b) → sum f xs ≤ b * length xs
  unfolding sum
  sum_bound f b [] le = omega arith
  sum_bound f b (x ∷ xs) le = omega (arith, le x (here refl), sum_bound f b xs (λ y m. le y (there m)))

  -- The sum over what is kept: what is not kept counts 0.
  pub sum-keep : (p : A → Bool) (f : A → ℕ) (xs : List A) → sum f (keep p xs) ≡ sum (λ x. cond (p x) (f x) 0) xs
  unfolding sum keep
  sum-keep p f [] = refl
  sum-keep p f (x ∷ xs) = go (p x) (sum-keep p f xs)
    where
      go : (b : Bool) → sum f (keep p xs) ≡ sum (λ y. cond (p y) (f y) 0) xs
          → sum f (cond b (x ∷ keep p xs) (keep p xs)) ≡ cond b (f x) 0 + sum (λ y. cond (p y) (f y) 0) xs
      go true ih = omega arith
      go false ih = omega arith

  -- ---- greatest values

  -- A value is at most the greatest.
  pub le-greatest : (f : A → ℕ) {x : A} {xs : List A} → Mem x xs → f x ≤ greatest f xs
  unfolding greatest
  le-greatest f {x = x} {xs = []} x3 = elim x3 [ ]
  le-greatest f {x} {xs = y ∷ ys} (here e) = rw e (omega arith)
  le-greatest f {x} {xs = y ∷ ys} (there m) = omega (arith, le-greatest f m)

  -- The greatest is at most a bound of all values.
  pub greatest-le : {f : A → ℕ} {n : ℕ} (xs : List A) → ((x : A) → Mem x xs → f x ≤ n) → greatest f xs ≤ n
  unfolding greatest
  greatest-le [] le = omega arith
  greatest-le (x ∷ xs) le = omega (arith, le x (here refl), greatest-le xs (λ y m. le y (there m)))

  -- What is below the greatest is below some value.
  pub greatest-exceeds : (f : A → ℕ) (n : ℕ) (xs : List A) → n < greatest f xs → (x : A) × Mem x xs × (n < f x)
  unfolding greatest
  greatest-exceeds f n [] less = absurd (omega arith)
  greatest-exceeds f n (x ∷ xs) less =
      elim (dec_lt n (f x)) [
        | yes here-more ↦ (x, here refl, here-more)
        | no small ↦ let (y, m, more) = greatest-exceeds f n xs (omega arith) in (y, there m, more)
      ]

-- ---- sums over places

-- What can be added beside one term, when no other falls, can be added beside the sum.
pub sum-at : (g h : ℕ → ℕ) (c d n m k : ℕ) → n ≤ k → k < n + m → ((i : ℕ) → n ≤ i → i < n + m → i ≢ k → g i ≤ h i) → c + g k ≤ d + h k
    → c + sum g (range n m) ≤ d + sum h (range n m)
unfolding sum range
sum-at g h c d n zero k low high le at = absurd (omega arith)
sum-at g h c d n (suc m) k low high le at =
    elim (ℕ_discrete n k) [
      | yes e ↦
          let now : c + g n ≤ d + h n = rw e at in
          let rest = sum-le {f = g} {g = h} (range (suc n) m) (λ i l. let (a, b) = of_range (suc n) m l in le i (omega arith) (omega arith) (omega arith)) in
          omega arith
      | no ne ↦
          let rest = sum-at g h c d (suc n) m k (omega arith) (omega arith) (λ i a b. le i (omega arith) (omega arith)) at in
          omega (arith, le n (omega arith) (omega arith) ne)
    ]

-- A sum over a range, moved by one.
range-shift : (g : ℕ → ℕ) (n m : ℕ) → sum g (range (suc n) m) ≡ sum (λ i. g (suc i)) (range n m)
unfolding sum range
range-shift g n zero = refl
range-shift g n (suc m) = ap (λ (s : ℕ). g (suc n) + s) (range-shift g (suc n) m)

-- A sum over a list is the sum over its places.
pub sum-places : {A : Type 0} (f : A → ℕ) (d : A) (xs : List A) → sum f xs ≡ sum (λ i. f (get_or xs i d)) (range 0 (length xs))
unfolding sum range
sum-places f d [] = refl
sum-places f d (x ∷ xs) = ap (λ (s : ℕ). f x + s) (sum-places f d xs ∙ sym (range-shift (λ i. f (get_or (x ∷ xs) i d)) 0 (length xs)))

-- A longer start of a list has no smaller product, where no factor is 0.
pub product-take : {A : Type 0} (f : A → ℕ) → ((x : A) → 1 ≤ f x) → {n n' : ℕ} → n ≤ n' → (xs : List A) → product f (take n xs) ≤ product f (take n' xs)
unfolding product
product-take f pos {n = zero} {n'} le xs = go (take n' xs)
  where
    go : (ys : List _) → 1 ≤ product f ys
    go [] = omega arith
    go (y ∷ ys) = one-le-mul (pos y) (go ys)
product-take f pos {n = suc n} {n' = zero} le xs = absurd (omega arith)
product-take f pos {n = suc n} {n' = suc n'} le [] = omega arith
product-take f pos {n = suc n} {n' = suc n'} le (x ∷ xs) = mul-le-mul_left (f x) (product-take f pos {n = n} {n' = n'} (omega arith) xs)

-- One factor more at the end.
pub product-last : {A : Type 0} (f : A → ℕ) (xs : List A) (x : A) → product f (xs ++ (x ∷ [])) ≡ product f xs * f x
unfolding product
product-last f [] x = omega arith
product-last f (y ∷ xs) x = ap (λ (n : ℕ). f y * n) (product-last f xs x) ∙ sym (mul_assoc (f y) (product f xs) (f x))

-- A factor that comes once may come first.
pub product-first : (f : ℕ → ℕ) {x : ℕ} (xs : List ℕ) → Apart xs → Mem x xs → product f xs ≡ f x * product f (keep (λ y. not (eqb y x)) xs)
unfolding product keep Apart
product-first f {x} [] apart m = absurd (Memᴰ.not-nil m)
product-first f {x} (y ∷ ys) (once, apart) m =
    elim (ℕ_discrete y x) [
      | yes e ↦
          let rest = keep_all (λ z. not (eqb z x)) ys (λ z l. differs z x (λ same. once (rw (e, ← same) l))) in
          rw (e, itself x, rest)
      | no other ↦
          let later : Mem x ys = elim (Memᴰ.cases_cons m) [ inl same ↦ absurd (other (sym same)) | inr l ↦ l ] in
          let rest = keep (λ z. not (eqb z x)) ys in
          rw (passed (not (eqb y x)) (differs y x other)) (ap (λ (n : ℕ). f y * n) (product-first f ys apart later) ∙ mul_left_comm (f y) (f x) (product f rest))
    ]
  where
    passed : (b : Bool) → T b → b ≡ true
    passed true t = refl
    passed false t = absurd t

-- Of a product, only what is at most m counts: a factor may be cut at m.
pub cut-mul : (m x y : ℕ) → min m (min m x * y) ≡ min m (x * y)
cut-mul m x zero = rw (mul-zero (min m x), mul-zero x)
cut-mul m x (suc y) =
    elim (dec_le m x) [
      | yes over ↦ let cut : min m x ≡ m = omega arith in rw cut (omega (arith, mul-suc m y, mul-suc x y))
      | no under ↦ let kept : min m x ≡ x = omega arith in rw kept
    ]
