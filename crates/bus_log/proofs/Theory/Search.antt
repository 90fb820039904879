-- A search as a loop makes it: n is next, and it ends before e.
use Rattle.std.specs.Prelude.{ℕ, ◌+◌, ◌-◌, ◌≤◌, ◌<◌, ◌≡◌, Bool, true, false, T, Some}
use Rattle.std.proofs.Common.{sym, arith}
use Rattle.arith.specs.Least.{least}
use Rattle.arith.specs.Laws.Least.{least-here, least_skip}

module _ (p : ℕ → Bool) (e n : ℕ) (b : Bool) (inside : n < e) (is : b ≡ p n) where
  -- It stops at a number that passes.
  pub search-stop : b ≡ true → least p (e - n) n ≡ Some n
  search-stop t = least-here p e n inside (rw (← is, t) tt)

  -- It goes on after one that fails.
  pub search-go : b ≡ false → least p (e - (n + 1)) (n + 1) ≡ least p (e - n) n
  search-go f = sym (least_skip p e n (n + 1) (omega arith) (omega arith) fails)
    where
      fails : (i : ℕ) → n ≤ i → i < n + 1 → ¬ T (p i)
      fails i low high t = let same : i ≡ n = omega arith in let z : T (p n) = rw same at t in rw (← is, f) at z
