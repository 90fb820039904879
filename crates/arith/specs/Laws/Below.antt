-- A fact about every number below n: by one computed test, or one after the other.
use Rattle.std.specs.Prelude.{ℕ, zero, suc, ◌<◌, Bool, true, false, ◌&&◌, T}
use Rattle.std.proofs.Common.{sym, subst, inl, inr, eq-or-lt_of_le, le_of_suc-le-suc, not-suc-le-zero}

-- whether each number below n passes the test
abbrev pub all_below : (ℕ → Bool) → ℕ → Bool
all_below p zero = true
all_below p (suc n) = p n && all_below p n

both : (a b : Bool) → T (a && b) → T a × T b
both true b t = (tt, t)
both false b t = absurd t

-- Where all pass, each does.
pub below : (p : ℕ → Bool) (n : ℕ) → T (all_below p n) → (k : ℕ) → k < n → T (p k)
below p zero t k h = absurd (not-suc-le-zero h)
below p (suc n) t k h =
    let b = both (p n) (all_below p n) t in
    elim (eq-or-lt_of_le (le_of_suc-le-suc h)) [
      | inl e ↦ subst (λ (m : ℕ). T (p m)) (sym e) b.0
      | inr l ↦ below p n b.1 k l
    ]

-- what is said of each number below n, one after the other
abbrev pub Each : (ℕ → Type 0) → ℕ → Type 0
Each P zero = Unit {0}
Each P (suc n) = Each P n × P n

-- Said of each, it holds of every one.
pub each_below : (P : ℕ → Type 0) (n : ℕ) → Each P n → (k : ℕ) → k < n → P k
each_below P zero b k h = absurd (not-suc-le-zero h)
each_below P (suc n) b k h =
    elim (eq-or-lt_of_le (le_of_suc-le-suc h)) [
      | inl e ↦ subst P (sym e) b.1
      | inr l ↦ each_below P n b.0 k l
    ]
