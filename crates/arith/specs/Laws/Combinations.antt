-- The number of combinations, and the length of each.
use Prim.Native.Nat.{ℕ, zero, suc, ◌+◌, ◌*◌, ◌≤◌, ◌<◌}
use Rattle.std.specs.Prelude.{◌≡◌, ◌≢◌}
use Rattle.std.proofs.Math.Path.{refl, sym, ap, ap₂, fun_ext}
use Rattle.std.proofs.Common.{◌∙◌, arith, zero-mul, length-append}
use mathlib.Core.List.Memᴰ
use mathlib.Core.List.Memᴰ.{head as here}
use mathlib.Core.List.Memᴰ.{tail as there}
use mathlib.Core.List.{List, [], ◌∷◌, ◌++◌, map, flat_map, append_assoc, append-nil, map-append, Memᴰ as Mem}
use Rattle.std.proofs.Math.Nat.{suc-mul}
use Rattle.std.proofs.Math.Decide.{ℕ_discrete}
use Rattle.std.proofs.Math.ListN.{length, length-map}
use Rattle.arith.specs.Lists.{product, range, combinations}
use Rattle.arith.specs.Laws.Members.{of_range, map_same, of-flat_map, of_map}

module _ {A : Type 0} where
  length-joined : (g : A → List A → List A) (ts : List (List A)) (xs : List A) → length (flat_map (λ x. map (g x) ts) xs) ≡ length xs * length ts
  unfolding flat_map
  length-joined g ts [] = sym (zero-mul (length ts))
  length-joined g ts (x ∷ xs) =
      rw (length-append (map (g x) ts) (flat_map (λ y. map (g y) ts) xs), length-map ts (g x), length-joined g ts xs, suc-mul (length xs) (length ts)) (omega arith)

  -- Their number is the product of the lists' lengths.
  pub length-combinations : (cs : ℕ → List A) (js : List ℕ) → length (combinations (map cs js)) ≡ product (λ j. length (cs j)) js
  unfolding combinations product
  length-combinations cs [] = refl
  length-combinations cs (j ∷ js) =
      length-joined (λ x t. x ∷ t) (combinations (map cs js)) (cs j) ∙ ap (λ (n : ℕ). length (cs j) * n) (length-combinations cs js)

  -- Each has a place for each list.
  pub length-combination : {t : List A} (ls : List (List A)) → Mem t (combinations ls) → length t ≡ length ls
  unfolding combinations
  length-combination [] m = ap length (Memᴰ.eq_of_singleton m)
  length-combination {t = t} (xs ∷ ls) m =
      let (x, l, o) = of-flat_map _ xs m in
      let (u, n, e) = of_map (λ (v : List A). x ∷ v) (combinations ls) o in
      rw e (ap suc (length-combination {t = u} ls n))

-- ---- joins

module _ {A B : Type 0} where
  -- The join of two lists is that of the one and then of the other.
  pub flat_map-append : (f : A → List B) (xs ys : List A) → flat_map f (xs ++ ys) ≡ flat_map f xs ++ flat_map f ys
  unfolding flat_map
  flat_map-append f [] ys = refl
  flat_map-append f (x ∷ xs) ys = ap (λ (r : List B). f x ++ r) (flat_map-append f xs ys) ∙ sym (append_assoc (f x) (flat_map f xs) (flat_map f ys))

  flat_map-one : (f : A → List B) (x : A) → flat_map f (x ∷ []) ≡ f x
  unfolding flat_map
  flat_map-one f x = append-nil (f x)

module _ {A B C : Type 0} where
  flat_map-map : (f : B → List C) (g : A → B) (xs : List A) → flat_map f (map g xs) ≡ flat_map (λ x. f (g x)) xs
  unfolding flat_map
  flat_map-map f g [] = refl
  flat_map-map f g (x ∷ xs) = ap (λ (r : List C). f (g x) ++ r) (flat_map-map f g xs)

  map-flat_map : (g : B → C) (f : A → List B) (xs : List A) → map g (flat_map f xs) ≡ flat_map (λ x. map g (f x)) xs
  unfolding flat_map
  map-flat_map g f [] = refl
  map-flat_map g f (x ∷ xs) = map-append g (f x) (flat_map f xs) ∙ ap (λ (r : List C). map g (f x) ++ r) (map-flat_map g f xs)

-- ---- combinations of lists of one

module _ {A : Type 0} where
  -- the combinations ts, each with x before it
  abbrev begun : List (List A) → A → List (List A)
  begun ts x = map (λ (t : List A). x ∷ t) ts

  -- Where each list has one element, there is one combination.
  pub combinations-one : (f : ℕ → List A) (c : ℕ → A) (js : List ℕ) → ((j : ℕ) → Mem j js → f j ≡ c j ∷ []) → combinations (map f js) ≡ map c js ∷ []
  unfolding combinations
  combinations-one f c [] one = refl
  combinations-one f c (j ∷ js) one =
      ap₂ (λ (xs : List A) (ts : List (List A)). flat_map (begun ts) xs) (one j (here refl)) (combinations-one f c js (λ i m. one i (there m)))
      ∙ flat_map-one (begun (map c js ∷ [])) (c j)

  -- Where only the lists before place j are such, one element of that after the other begins them: h b has the element g b alone there.
  module _ {B : Type 0} (f : ℕ → List A) (g : B → A) (xs : List B) (h : B → ℕ → List A) (c : ℕ → A) (j : ℕ) where
    pub combinations-split : (n m : ℕ) → n ≤ j → j < n + m → ((i : ℕ) → n ≤ i → i < j → f i ≡ c i ∷ []) → f j ≡ map g xs
        → ((b : B) (i : ℕ) → n ≤ i → i < n + m → i ≢ j → h b i ≡ f i) → ((b : B) → h b j ≡ g b ∷ [])
        → combinations (map f (range n m)) ≡ flat_map (λ b. combinations (map (h b) (range n m))) xs
    unfolding combinations range
    combinations-split n zero low high one all same alone = absurd (omega arith)
    combinations-split n (suc m) low high one all same alone =
        elim (ℕ_discrete n j) [
          | yes e ↦
              let rest : List (List A) = combinations (map f (range (suc n) m)) in
              let left : f n ≡ map g xs = rw e all in
              let right : (b : B) → combinations (map (h b) (range n (suc m))) ≡ begun rest (g b) = λ b.
              let single : h b n ≡ g b ∷ [] = rw e (alone b) in
              ap₂ (λ (ys : List A) (ts : List (List A)). flat_map (begun ts) ys)
              single (ap combinations (map_same (range (suc n) m) (λ i l. let (a, z) = of_range (suc n) m l in same b i (omega arith) (omega arith) (omega arith))))
              ∙ flat_map-one (begun rest) (g b) in
              ap (flat_map (begun rest)) left
              ∙ flat_map-map (begun rest) g xs
              ∙ ap (λ (r : B → List (List A)). flat_map r xs) (fun_ext (λ b. sym (right b)))
          | no other ↦
              let rest : B → List (List A) = λ b. combinations (map (h b) (range (suc n) m)) in
              let later = combinations-split (suc n) m (omega arith) (omega arith) (λ i a z. one i (omega arith) z) all (λ b i a z. same b i (omega arith) (omega arith)) alone in
              let right : (b : B) → combinations (map (h b) (range n (suc m))) ≡ begun (rest b) (c n) = λ b.
              ap (flat_map (begun (rest b))) (same b n (omega arith) (omega arith) other ∙ one n (omega arith) (omega arith))
              ∙ flat_map-one (begun (rest b)) (c n) in
              ap₂ (λ (ys : List A) (ts : List (List A)). flat_map (begun ts) ys) (one n (omega arith) (omega arith)) later
              ∙ flat_map-one (begun (flat_map rest xs)) (c n)
              ∙ map-flat_map (λ (t : List A). c n ∷ t) rest xs
              ∙ ap (λ (r : B → List (List A)). flat_map r xs) (fun_ext (λ b. sym (right b)))
        ]
