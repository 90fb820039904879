-- The number of d, d + p, d + 2p, .. below a tick, for p at least 1.
-- The first law says it all; the others are its consequences.
use Prim.Native.Nat.{ℕ, zero, suc, ◌+◌, ◌-◌, ◌*◌, ◌≤◌, ◌<◌}
use Rattle.std.specs.Prelude.{◌≡◌, refl, ◌↔◌}
use Rattle.std.proofs.Math.Nat.{le-div_iff_mul-le, div-mul-le_self, div-zero}
use Rattle.std.proofs.Common.{le-mul_of_pos_right, suc-mul, zero-mul, arith}
use Rattle.arith.specs.Releases.{releases_before}

module _ (d : ℕ) {p : ℕ} (pos : 1 ≤ p) where
  -- Number m, counted from 0, is below n just where m is less than the count.
  pub counted : (n m : ℕ) → (m < releases_before d p n) ↔ (d + m * p < n)
  unfolding releases_before
  counted n m =
      let law = le-div_iff_mul-le {x = suc m} {y = n - d + (p - 1)} pos in
      (λ l. omega (arith, law.0 l), λ (l : d + m * p < n). law.1 (omega arith))

  -- Where number c is at n or later, at most c are below n.
  pub count-le : (n c : ℕ) → n ≤ d + c * p → releases_before d p n ≤ c
  count-le n c late = let few : ¬ (c < releases_before d p n) = λ more. omega (arith, (counted n c).0 more) in omega arith

  -- The first number that is not counted is at n or later.
  pub next-after : (n : ℕ) → n ≤ d + releases_before d p n * p
  next-after n = let late : ¬ (d + releases_before d p n * p < n) = λ less. omega (arith, (counted n (releases_before d p n)).1 less) in omega arith

  -- The count grows with n.
  pub count-mono : {n n' : ℕ} → n ≤ n' → releases_before d p n ≤ releases_before d p n'
  count-mono {n} {n'} le = count-le n (releases_before d p n') (omega (arith, next-after n'))

  -- At most one is counted for each tick.
  pub count_small : (n : ℕ) → releases_before d p n ≤ n
  count_small n = count-le n n (omega (arith, le-mul_of_pos_right n pos))

  -- Counted from d, their periods end less than a period after n.
  pub count-short : (n : ℕ) → releases_before d p n * p ≤ n - d + (p - 1)
  unfolding releases_before
  count-short n = div-mul-le_self (n - d + (p - 1)) p

  module _ (early : d < p) where
    -- Where the first is in the first period, a period more has one more.
    count_turn : (n : ℕ) → releases_before d p (p + n) ≡ suc (releases_before d p n)
    count_turn n =
        let more : releases_before d p n < releases_before d p (p + n) = (counted (p + n) (releases_before d p n)).1 (reached (releases_before d p n) refl) in
        let most : releases_before d p (p + n) ≤ suc (releases_before d p n) = count-le (p + n) (suc (releases_before d p n)) (omega (arith, next-after n, suc-mul (releases_before d p n) p)) in
        omega arith
      where
        reached : (r : ℕ) → r ≡ releases_before d p n → d + r * p < p + n
        reached zero e = omega (arith, zero-mul p)
        reached (suc r) e = omega (arith, (counted n r).0 (omega arith), suc-mul r p)

    -- So whole periods have as many more.
    pub count-turns : (m n : ℕ) → releases_before d p (m * p + n) ≡ m + releases_before d p n
    count-turns zero n = let none : 0 * p + n ≡ n = omega (arith, zero-mul p) in rw none (omega arith)
    count-turns (suc m) n =
        let next : suc m * p + n ≡ p + (m * p + n) = omega (arith, suc-mul m p) in
        rw next (omega (arith, count_turn (m * p + n), count-turns m n))

-- Counted c ticks ahead from 0: those before c, and then those that come at the rest of their period.
pub count-ahead : {p : ℕ} → 1 ≤ p → (n c : ℕ) → releases_before 0 p (n + c) ≡ releases_before 0 p c + releases_before (releases_before 0 p c * p - c) p n
count-ahead {p} pos n c =
    let m = releases_before 0 p c in
    let d = m * p - c in
    let before = next-after 0 pos c in
    let most : releases_before 0 p (n + c) ≤ m + releases_before d p n = count-le 0 pos (n + c) (m + releases_before d p n) (omega (arith, next-after d pos n)) in
    let least : m + releases_before d p n ≤ releases_before 0 p (n + c) = reached (releases_before d p n) refl in
    omega arith
  where
    reached : (r : ℕ) → r ≡ releases_before (releases_before 0 p c * p - c) p n → releases_before 0 p c + r ≤ releases_before 0 p (n + c)
    reached zero e = let later : c ≤ n + c = omega arith in omega (arith, count-mono 0 pos later)
    reached (suc r) e =
        let m = releases_before 0 p c in
        let last = (counted (m * p - c) pos n r).0 (omega arith) in
        omega (arith, (counted 0 pos (n + c) (m + r)).1 (omega (arith, next-after 0 pos c)))

-- The count grows with n also where p is 0, since it is 0 then.
pub count-grows : (d p : ℕ) {n n' : ℕ} → n ≤ n' → releases_before d p n ≤ releases_before d p n'
unfolding releases_before
count-grows d zero {n} {n'} le = omega (arith, div-zero (n - d + (0 - 1)))
count-grows d (suc p) le = count-mono d (omega arith) le

-- The count does not grow with d.
pub count-later : {d d' p : ℕ} → d ≤ d' → 1 ≤ p → (n : ℕ) → releases_before d' p n ≤ releases_before d p n
count-later {d} {d'} {p} le pos n = count-le d' pos n (releases_before d p n) (omega (arith, next-after d pos n))
