-- What a least search finds: a number of its range that passes, and none below it does.
-- A search finds none just where none of its range passes. For a loop, whose search of n .. e - 1 is `least p (e - n) n`,
-- the laws at the end say where it stops and what it may pass over.
use Prim.Native.Nat.{ℕ, zero, suc, ◌+◌, ◌-◌, ◌≤◌, ◌<◌}
use Rattle.std.specs.Prelude.{◌≡◌, refl, Bool, Option, Some, None, is_none}
use Rattle.std.proofs.Common.{subst, inl, inr, eq-or-lt_of_le}
use Rattle.std.proofs.Math.Bool.{true, false}
use native.Mathlib.Omega.{arith}
use Rattle.std.proofs.Math.Nat.{add-zero}
use Rattle.std.proofs.Math.Dec.{T}
use Rattle.arith.specs.Least.{least}

-- The search, told the first test's answer.
abbrev from-answer : (p : ℕ → Bool) (k n : ℕ) → Bool → Option ℕ
from-answer p k n b = elim b as (λ (c : Bool). (Option ℕ)) [ true ↦ Some n | false ↦ least p k (suc n) ]

-- What is found lies in the range and passes.
pub least_at : (p : ℕ → Bool) (k n m : ℕ) → least p k n ≡ Some m → (n ≤ m) × (m < n + k) × T (p m)
unfolding least
least_at p zero n m e = let z : ◌≡◌ {A = ℕ} 0 1 = cc in absurd (omega arith)
least_at p (suc k) n m e = go (p n) refl e (least_at p k (suc n) m)
  where
    go : (b : Bool) → p n ≡ b → from-answer p k n b ≡ Some m → (least p k (suc n) ≡ Some m → (suc n ≤ m) × (m < suc n + k) × T (p m))
        → (n ≤ m) × (m < n + suc k) × T (p m)
    go true t r later = let same : n ≡ m = cc in (omega arith, omega arith, rw (← same, t) tt)
    go false t r later = let l = later r in (omega arith, omega arith, l.2)

-- Where a number of the range passes, one is found, which is not above it.
pub least-finds : (p : ℕ → Bool) (k n m : ℕ) → n ≤ m → m < n + k → T (p m) → (l : ℕ) × (least p k n ≡ Some l) × (l ≤ m)
unfolding least
least-finds p zero n m low high t = absurd (omega arith)
least-finds p (suc k) n m low high t = go (p n) refl (λ h. least-finds p k (suc n) m h (omega arith) t)
  where
    go : (b : Bool) → p n ≡ b → (n < m → (l : ℕ) × (least p k (suc n) ≡ Some l) × (l ≤ m)) → (l : ℕ) × (from-answer p k n b ≡ Some l) × (l ≤ m)
    go true s later = (n, refl, low)
    go false s later = elim (eq-or-lt_of_le low) [ inl e ↦ absurd (subst T (rw e at s) t) | inr h ↦ later h ]

-- Nothing below what is found passes.
pub least-le : (p : ℕ → Bool) (k n l m : ℕ) → least p k n ≡ Some l → n ≤ m → T (p m) → l ≤ m
least-le p k n l m e low t =
    let found = least_at p k n l e in
    let below : m < l → l ≤ m = λ less. let (l', e', le) = least-finds p k n m low (omega arith) t in let same : l ≡ l' = cc in omega arith in
    let here : ¬ (m < l) = λ less. omega (arith, below less) in
    omega arith

-- Where no number of the range passes, none is found.
pub least-none : (p : ℕ → Bool) (k n : ℕ) → ((m : ℕ) → n ≤ m → m < n + k → ¬ T (p m)) → least p k n ≡ None
unfolding least
least-none p zero n fails = refl
least-none p (suc k) n fails = go (p n) (fails n (omega arith) (omega arith)) (least-none p k (suc n) (λ m low high. fails m (omega arith) (omega arith)))
  where
    go : (b : Bool) → ¬ T b → least p k (suc n) ≡ None → from-answer p k n b ≡ None
    go true f later = absurd (f tt)
    go false f later = later

-- What is found is not nothing.
pub none-at : {m : ℕ} → None ≡ Some m → ⊥
none-at is = subst (λ (r : Option ℕ). T (is_none r)) is tt

-- It is nothing where the test for it passes.
pub is-none : (r : Option ℕ) → is_none r ≡ true → r ≡ None
is-none (Some m) e = let z : ◌≡◌ {A = ℕ} 0 1 = cc in absurd (omega arith)
is-none None e = refl

-- A search finds a number, or its test for none passes.
pub not_none : (r : Option ℕ) → ¬ T (is_none r) → (l : ℕ) × (r ≡ Some l)
not_none (Some l) f = (l, refl)
not_none None f = absurd (f tt)

-- ---- the search of n .. e - 1, as a loop has it

module _ (p : ℕ → Bool) (e : ℕ) where
  -- What is found is not below n, is below e, and passes.
  pub least-within : {n m : ℕ} → least p (e - n) n ≡ Some m → (n ≤ m) × (m < e) × T (p m)
  least-within {n} {m} found = let (low, high, t) = least_at p (e - n) n m found in (low, omega arith, t)

  -- It stops at a number that passes.
  pub least-here : (n : ℕ) → n < e → T (p n) → least p (e - n) n ≡ Some n
  least-here n inside t =
      let (l, found, le) = least-finds p (e - n) n n (omega arith) (omega arith) t in
      let (low, high, u) = least-within found in
      let same : l ≡ n = omega arith in
      rw same at found

  -- It stops at e.
  pub least-end : (n : ℕ) → e ≤ n → least p (e - n) n ≡ None
  least-end n over = least-none p (e - n) n (λ m low high. absurd (omega arith))

  skip_by : (d n : ℕ) → n + d ≤ e → ((i : ℕ) → n ≤ i → i < n + d → ¬ T (p i)) → least p (e - n) n ≡ least p (e - (n + d)) (n + d)
  unfolding least
  skip_by zero n inside fails = rw add-zero
  skip_by (suc d) n inside fails =
      let more : e - n ≡ suc (e - suc n) = omega arith in
      let next : suc n + d ≡ n + suc d = omega arith in
      rw more (go (p n) (fails n (omega arith) (omega arith)) (rw next at (skip_by d (suc n) (omega arith) (λ i low high. fails i (omega arith) (omega arith)))))
    where
      go : (b : Bool) → ¬ T b → least p (e - suc n) (suc n) ≡ least p (e - (n + suc d)) (n + suc d) → from-answer p (e - suc n) n b ≡ least p (e - (n + suc d)) (n + suc d)
      go true f later = absurd (f tt)
      go false f later = later

  -- It passes over numbers that fail.
  pub least_skip : (n m : ℕ) → n ≤ m → m ≤ e → ((i : ℕ) → n ≤ i → i < m → ¬ T (p i)) → least p (e - n) n ≡ least p (e - m) m
  least_skip n m le inside fails =
      let same : n + (m - n) ≡ m = omega arith in
      rw same at (skip_by (m - n) n (omega arith) (λ i low high. fails i low (omega arith)))

-- ---- two searches of n .. e - 1, where what passes the one test passes the other

module _ (p q : ℕ → Bool) (e : ℕ) (wider : (i : ℕ) → T (q i) → T (p i)) where
  -- Nothing below what the wider one finds passes the other: that may start there.
  pub least-from : (n m : ℕ) → least p (e - n) n ≡ Some m → least q (e - n) n ≡ least q (e - m) m
  least-from n m found =
      let (low, high, t) = least-within p e found in
      least_skip q e n m low (omega arith) (λ i from below u. omega (arith, least-le p (e - n) n m i found from (wider i u)))

  -- Where the wider one finds none, neither does the other.
  pub least-neither : (n : ℕ) → least p (e - n) n ≡ None → least q (e - n) n ≡ None
  least-neither n none =
      least-none q (e - n) n (λ i low high u. let (l, found, le) = least-finds p (e - n) n i low high (wider i u) in let z : ◌≡◌ {A = ℕ} 0 1 = cc in omega arith)
