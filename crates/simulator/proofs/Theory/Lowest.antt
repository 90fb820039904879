-- The lowest of a row of keys.
use Rattle.std.specs.Prelude.{ℕ, zero, suc, ◌+◌, ◌≤◌, ◌<◌, ◌≡◌, refl, cond, ◌⊎◌, ltb}
use Rattle.std.proofs.Common.{ap, inl, inr, arith, add-one, eq-or-lt_of_le, le_of_suc-le-suc, ltb-true, ltb-false}
use Rattle.arith.specs.Laws.Tests.{by-test}
use Rattle.simulator.specs.Engine.{lowest_of}

pub record IsLowest (key : ℕ → ℕ) (n k : ℕ) : Type 0 where
  pub below : k < n
  pub least : (i : ℕ) → i < n → key k ≤ key i

-- One more, as a loop takes it.
pub lowest-more : (key : ℕ → ℕ) (n : ℕ) → lowest_of key (n + 1) ≡ cond (ltb (key n) (key (lowest_of key n))) n (lowest_of key n)
unfolding lowest_of
lowest-more key n = rw (add-one n)

-- Below n, or 0.
pub lowest-within : (key : ℕ → ℕ) (n m : ℕ) → n ≤ m → 0 < m → lowest_of key n < m
unfolding lowest_of
lowest-within key zero m h p = p
lowest-within key (suc n) m h p =
    let k = lowest_of key n in
    by-test (ltb (key n) (key k)) (λ t. rw t (omega arith)) (λ f. rw f (lowest-within key n m (omega arith) p))

pub lowest-is : (key : ℕ → ℕ) (n : ℕ) → IsLowest key (suc n) (lowest_of key (suc n))
unfolding lowest_of
lowest-is key zero =
    by-test (ltb (key 0) (key 0)) (λ t. rw t only) (λ f. rw f only)
  where
    only : IsLowest key 1 0
    only = record { below = omega arith; least = λ i l. let z : i ≡ 0 = omega arith in rw z (omega arith) }
lowest-is key (suc n) = go (lowest-is key n)
  where
    k : ℕ
    k = lowest_of key (suc n)

    last : (i : ℕ) → i < suc (suc n) → (i ≡ suc n) ⊎ (i < suc n)
    last i l = eq-or-lt_of_le (le_of_suc-le-suc l)

    go : IsLowest key (suc n) k → IsLowest key (suc (suc n)) (cond (ltb (key (suc n)) (key k)) (suc n) k)
    go is =
        by-test (ltb (key (suc n)) (key k))
        (λ t. rw t (record {
          below = omega arith;
          least = λ i l. elim (last i l) [ inl q ↦ omega (arith, ap key q) | inr m ↦ omega (arith, is.least i m, ltb-true (key (suc n)) (key k) t) ];
        }))
        (λ f. rw f (record {
          below = omega (arith, is.below);
          least = λ i l. elim (last i l) [ inl q ↦ omega (arith, ap key q, ltb-false (key (suc n)) (key k) f) | inr m ↦ is.least i m ];
        }))

-- of n numbers, where there is one
pub lowest : (key : ℕ → ℕ) (n : ℕ) → 0 < n → IsLowest key n (lowest_of key n)
lowest key zero p = absurd (omega arith)
lowest key (suc n) p = lowest-is key n

-- Keys that are the same have the same lowest.
pub lowest-same : (key other : ℕ → ℕ) (n : ℕ) → ((i : ℕ) → i < n → key i ≡ other i) → lowest_of key n ≡ lowest_of other n
unfolding lowest_of
lowest-same key other zero h = refl
lowest-same key other (suc n) h =
    let k : ℕ = lowest_of other n in
    let ih : lowest_of key n ≡ k = lowest-same key other n (λ i l. h i (omega arith)) in
    rw (ih, h n (omega arith), h k (lowest-within other n (suc n) (omega arith) (omega arith)))
