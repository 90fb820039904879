-- Tests, and the values that are chosen by them.
-- `cond` is the library's choice by a test, its first value where the test passes.
use Rattle.std.specs.Prelude.{ℕ, ◌≤◌, ◌≡◌, refl, Bool, true, false, not, cond, ◌&&◌, T, eqb}
use Rattle.std.proofs.Common.{arith, eqb→eq}
use Rattle.std.proofs.Math.Dec.{eqb_refl}

-- A case for each answer of a test.
pub by-test {ℓ} : {A : Type ℓ} (t : Bool) → (t ≡ true → A) → (t ≡ false → A) → A
by-test true f g = f refl
by-test false f g = g refl

-- Two tests are the same where each passes with the other.
pub same_test : (a b : Bool) → (T a → T b) → (T b → T a) → a ≡ b
same_test true true to from = refl
same_test true false to from = absurd (to tt)
same_test false true to from = absurd (from tt)
same_test false false to from = refl

-- Both of two tests pass where they pass together.
pub and_both : (a b : Bool) → (a && b) ≡ true → (a ≡ true) × (b ≡ true)
and_both true b e = (refl, e)
and_both false b e = let z : ◌≡◌ {A = ℕ} 0 1 = cc in absurd (omega arith)

-- Where the test passes, it is the first.
pub cond_yes : {A : Type 0} (b : Bool) (x y : A) → T b → cond b x y ≡ x
cond_yes true x y t = refl
cond_yes false x y t = absurd t

-- Where it fails, it is the second.
pub cond_no : {A : Type 0} (b : Bool) (x y : A) → ¬ T b → cond b x y ≡ y
cond_no true x y t = absurd (t tt)
cond_no false x y t = refl

-- A function of the choice is the choice of its values.
pub cond_map : {A B : Type 0} (f : A → B) (b : Bool) (x y : A) → f (cond b x y) ≡ cond b (f x) (f y)
cond_map f true x y = refl
cond_map f false x y = refl

-- What holds of the first where the test passes, and of the second where it fails, holds of the choice.
pub cond_cases : {A : Type 0} (P : A → Type 0) (b : Bool) {x y : A} → (T b → P x) → (¬ T b → P y) → P (cond b x y)
cond_cases P true first second = first tt
cond_cases P false first second = second (λ t. t)

-- A number that counts only under a test grows with the test and with itself.
pub cond-le : (b c : Bool) (m n : ℕ) → (T b → T c × (m ≤ n)) → cond b m 0 ≤ cond c n 0
cond-le true true m n h = (h tt).1
cond-le true false m n h = absurd (h tt).0
cond-le false c m n h = omega arith

-- ---- tests of numbers

-- A number that is not another passes the test for that,
pub differs : (i j : ℕ) → ¬ (i ≡ j) → T (not (eqb i j))
differs i j other = go (eqb i j) refl
  where
    go : (b : Bool) → eqb i j ≡ b → T (not b)
    go true e = absurd (other (eqb→eq i j (rw e tt)))
    go false e = tt

-- and fails it for itself.
pub itself : (j : ℕ) → not (eqb j j) ≡ false
itself j = go (eqb j j) (eqb_refl j)
  where
    go : (b : Bool) → T b → not b ≡ false
    go true t = refl
    go false t = absurd t
