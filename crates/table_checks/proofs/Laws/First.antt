-- The first check that fails, as a loop finds it: check n is next, and the checks end before e.
use Prim.Native.Nat.{ℕ, zero, suc, ◌+◌, ◌-◌, ◌≤◌, ◌<◌}
use Rattle.std.specs.Prelude.{◌≡◌, refl, Result, Ok, Err}
use Rattle.std.proofs.Common.{sym, ap, ap₂, ◌∙◌, add-zero}
use native.Mathlib.Omega.{arith}
use Rattle.table_checks.specs.declared.Refusal.{Refusal}
use Rattle.table_checks.specs.Checks.{first, first_of}

-- Both of two checks passed where the first that fails is none.
pub first-passed : (a b : Result (Unit {0}) Refusal) → first a b ≡ Ok tt → (a ≡ Ok tt) × (b ≡ Ok tt)
first-passed (Ok _) b e = (refl, e)
first-passed (Err r) b e = let z : ◌≡◌ {A = ℕ} 0 1 = cc in absurd (omega arith)

-- To look twice changes nothing.
pub first-twice : (a b : Result (Unit {0}) Refusal) → first a (first a b) ≡ first a b
first-twice (Ok _) b = refl
first-twice (Err r) b = refl

-- Checks that are the same, one by one, from a on and from b on.
pub first-same : (check check' : ℕ → Result (Unit {0}) Refusal) (m a b : ℕ) → ((d : ℕ) → d < m → check (a + d) ≡ check' (b + d)) → first_of check m a ≡ first_of check' m b
unfolding first_of
first-same check check' zero a b same = refl
first-same check check' (suc m) a b same =
    ap₂ first (simp add-zero at (same 0 (omega arith)))
    (first-same check check' m (a + 1) (b + 1)
    (λ d l. let p : a + 1 + d ≡ a + suc d = omega arith in
    let q : b + 1 + d ≡ b + suc d = omega arith in rw (p, q) (same (suc d) (omega arith))))

module _ (check : ℕ → Result (Unit {0}) Refusal) where
  -- A check more.
  first-turn : (e n : ℕ) → n < e → first_of check (e - n) n ≡ first (check n) (first_of check (e - (n + 1)) (n + 1))
  unfolding first_of
  first-turn e n l = let m : e - n ≡ suc (e - (n + 1)) = omega arith in rw m

  -- The loop stops at a check that fails.
  pub first-stop : (e n : ℕ) (c : Result (Unit {0}) Refusal) (r : Refusal) → n < e → c ≡ check n → c ≡ Err r → c ≡ first_of check (e - n) n
  first-stop e n c r l is fails = rw (first-turn e n l, ← is, fails)

  -- It goes on after one that passes.
  pub first-go : (e n : ℕ) (c : Result (Unit {0}) Refusal) → n < e → c ≡ check n → c ≡ Ok tt → first_of check (e - (n + 1)) (n + 1) ≡ first_of check (e - n) n
  first-go e n c l is passes = sym (first-turn e n l ∙ ap (λ (x : Result (Unit {0}) Refusal). first x (first_of check (e - (n + 1)) (n + 1))) (sym is ∙ passes))

  -- At the end none has failed.
  pub first-end : (e n : ℕ) → e ≤ n → Ok tt ≡ first_of check (e - n) n
  unfolding first_of
  first-end e n l = let m : e - n ≡ 0 = omega arith in rw m

  -- Where none fails, each has passed.
  pub first-each : (m n : ℕ) → first_of check m n ≡ Ok tt → (d : ℕ) → d < m → check (n + d) ≡ Ok tt
  unfolding first_of
  first-each zero n e d l = absurd (omega arith)
  first-each (suc m) n e d l =
      let both = first-passed (check n) (first_of check m (n + 1)) e in
      each both.0 (first-each m (n + 1) both.1) d l
    where
      each : check n ≡ Ok tt → ((d : ℕ) → d < m → check (n + 1 + d) ≡ Ok tt) → (d : ℕ) → d < suc m → check (n + d) ≡ Ok tt
      each z f zero l = let a : n + 0 ≡ n = omega arith in rw a z
      each z f (suc d) l = let a : n + suc d ≡ n + 1 + d = omega arith in rw a (f d (omega arith))
