-- What belongs to a selection, a range, a combination; the places of a list; an element of least value; a range as a loop goes through it.
-- Membership is the library's `Memᴰ`, here `Mem`.
use Prim.Native.Nat.{ℕ, zero, suc, ◌+◌, ◌-◌, ◌≤◌, ◌<◌}
use Rattle.std.specs.Prelude.{◌≡◌, Bool, ◌||◌, ◌&&◌, ◌⊎◌, eqb, get_or, take, drop}
use Rattle.std.proofs.Math.Path.{refl, ap}
use Rattle.std.proofs.Common.{sym, ap₂, ◌∙◌, eq-or-lt_of_le, zero-add, add-one, eqb→eq, length-drop, length-take-le, take-take, take_at, drop_at, ext_get_or}
use mathlib.Core.List.Memᴰ
use mathlib.Core.List.Memᴰ.{head as here}
use mathlib.Core.List.Memᴰ.{tail as there}
use mathlib.Core.List.{List, [], ◌∷◌, ◌++◌, map, flat_map, Memᴰ as Mem}
use Rattle.std.proofs.Math.Bool.{true, false, cond}
use Rattle.std.proofs.Math.Logic.{inl, inr}
use native.Mathlib.Omega.{arith}
use Rattle.std.proofs.Math.Nat.{add-zero}
use Rattle.std.proofs.Math.Decide.{dec_le}
use Rattle.std.proofs.Math.Dec.{T, eqb_refl}
use Rattle.std.proofs.Math.ListN.{length}
use Rattle.std.proofs.lemmas.List.{length-map, take-append-le, drop-append-le}
use Rattle.arith.specs.Lists.{keep, exists, range, combinations}

module _ {A : Type 0} where
  -- ---- selections

  -- What passes is kept.
  pub mem-keep : (p : A → Bool) {x : A} {xs : List A} → Mem x xs → T (p x) → Mem x (keep p xs)
  unfolding keep
  mem-keep p {x = x} {xs = []} x6 t = elim x6 [ ]
  mem-keep p {x} {xs = y ∷ ys} (here e) t = go (p y) (rw e at t)
    where
      go : (b : Bool) → T b → Mem x (cond b (y ∷ keep p ys) (keep p ys))
      go true s = here e
      go false s = absurd s
  mem-keep p {x} {xs = y ∷ ys} (there m) t = go (p y) (mem-keep p m t)
    where
      go : (b : Bool) → Mem x (keep p ys) → Mem x (cond b (y ∷ keep p ys) (keep p ys))
      go true n = there n
      go false n = n

  -- What is kept is of the list, and passes.
  pub of-keep : (p : A → Bool) {x : A} (xs : List A) → Mem x (keep p xs) → Mem x xs × T (p x)
  unfolding keep
  of-keep p [] m = absurd (Memᴰ.not-nil m)
  of-keep p {x} (y ∷ ys) m = go (p y) refl m (of-keep p ys)
    where
      go : (b : Bool) → p y ≡ b → Mem x (cond b (y ∷ keep p ys) (keep p ys)) → (Mem x (keep p ys) → Mem x ys × T (p x)) → Mem x (y ∷ ys) × T (p x)
      go true e (here s) ih = (here s, rw (s, e) tt)
      go true e (there n) ih = (there (ih n).0, (ih n).1)
      go false e n ih = (there (ih n).0, (ih n).1)

  -- No more is kept than there is.
  pub length-keep : (p : A → Bool) (xs : List A) → length (keep p xs) ≤ length xs
  unfolding keep
  length-keep p [] = omega arith
  length-keep p (x ∷ xs) = go (p x) (length-keep p xs)
    where
      go : (b : Bool) → length (keep p xs) ≤ length xs → length (cond b (x ∷ keep p xs) (keep p xs)) ≤ suc (length xs)
      go true ih = omega arith
      go false ih = omega arith

  -- What an element more does to a fold over what is kept: nothing, where it is not kept.
  pub fold-keep : {B : Type 0} (F : List A → B) (step : A → B → B) → ((x : A) (xs : List A) → F (x ∷ xs) ≡ step x (F xs))
      → (p : A → Bool) (x : A) (xs : List A) → F (keep p (x ∷ xs)) ≡ cond (p x) (step x (F (keep p xs))) (F (keep p xs))
  unfolding keep
  fold-keep F step cons p x xs = go (p x)
    where
      go : (b : Bool) → F (cond b (x ∷ keep p xs) (keep p xs)) ≡ cond b (step x (F (keep p xs))) (F (keep p xs))
      go true = cons x (keep p xs)
      go false = refl

  -- Where an element passes, one exists.
  pub exists-mem : (p : A → Bool) {x : A} {xs : List A} → Mem x xs → T (p x) → T (exists p xs)
  unfolding exists
  exists-mem p {x = x} {xs = []} x6 t = elim x6 [ ]
  exists-mem p {x} {xs = y ∷ ys} (here e) t = go (p y) (rw e at t)
    where
      go : (b : Bool) → T b → T (b || exists p ys)
      go true s = tt
      go false s = absurd s
  exists-mem p {x} {xs = y ∷ ys} (there m) t = go (p y) (exists-mem p m t)
    where
      go : (b : Bool) → T (exists p ys) → T (b || exists p ys)
      go true s = tt
      go false s = s

  -- Where one exists, it is of the list.
  pub of-exists : (p : A → Bool) (xs : List A) → T (exists p xs) → (x : A) × Mem x xs × T (p x)
  unfolding exists
  of-exists p [] t = absurd t
  of-exists p (y ∷ ys) t = go (p y) refl t (of-exists p ys)
    where
      go : (b : Bool) → p y ≡ b → T (b || exists p ys) → (T (exists p ys) → (x : A) × Mem x ys × T (p x)) → (x : A) × Mem x (y ∷ ys) × T (p x)
      go true e s later = (y, here refl, rw e tt)
      go false e s later = let (x, m, u) = later s in (x, there m, u)

  -- Where two tests agree on a list, they keep the same.
  pub keep_same : {p q : A → Bool} (xs : List A) → ((x : A) → Mem x xs → p x ≡ q x) → keep p xs ≡ keep q xs
  unfolding keep
  keep_same [] same = refl
  keep_same {p} {q} (x ∷ xs) same = rw (same x (here refl), keep_same {p = p} {q = q} xs (λ y m. same y (there m)))

  -- What is kept of two lists is kept of the one and then of the other.
  pub keep_append : (p : A → Bool) (xs ys : List A) → keep p (xs ++ ys) ≡ keep p xs ++ keep p ys
  unfolding keep
  keep_append p [] ys = refl
  keep_append p (x ∷ xs) ys = rw (keep_append p xs ys) (go (p x))
    where
      go : (b : Bool) → cond b (x ∷ (keep p xs ++ keep p ys)) (keep p xs ++ keep p ys) ≡ cond b (x ∷ keep p xs) (keep p xs) ++ keep p ys
      go true = refl
      go false = refl

  -- Where all pass, all are kept.
  pub keep_all : (p : A → Bool) (xs : List A) → ((x : A) → Mem x xs → T (p x)) → keep p xs ≡ xs
  unfolding keep
  keep_all p [] passes = refl
  keep_all p (x ∷ xs) passes = go (p x) (passes x (here refl)) (keep_all p xs (λ y m. passes y (there m)))
    where
      go : (b : Bool) → T b → keep p xs ≡ xs → cond b (x ∷ keep p xs) (keep p xs) ≡ x ∷ xs
      go true t e = ap (λ (ys : List A). x ∷ ys) e
      go false t e = absurd t

  -- What fails makes the selection shorter.
  pub keep-le : (p : A → Bool) (xs : List A) → length (keep p xs) ≤ length xs
  unfolding keep
  keep-le p [] = omega arith
  keep-le p (x ∷ xs) = go (p x) (keep-le p xs)
    where
      go : (b : Bool) → length (keep p xs) ≤ length xs → length (cond b (x ∷ keep p xs) (keep p xs)) ≤ suc (length xs)
      go true le = omega arith
      go false le = omega arith

  pub keep-shorter : (p : A → Bool) {x : A} {xs : List A} → Mem x xs → ¬ T (p x) → length (keep p xs) < length xs
  unfolding keep
  keep-shorter p {x = x} {xs = []} x6 fails = elim x6 [ ]
  keep-shorter p {x} {xs = y ∷ ys} (here e) fails = go (p y) (rw e at fails)
    where
      go : (b : Bool) → ¬ T b → length (cond b (y ∷ keep p ys) (keep p ys)) < suc (length ys)
      go true f = absurd (f tt)
      go false f = omega (arith, keep-le p ys)
  keep-shorter p {x} {xs = y ∷ ys} (there m) fails = go (p y) (keep-shorter p m fails)
    where
      go : (b : Bool) → length (keep p ys) < length ys → length (cond b (y ∷ keep p ys) (keep p ys)) < suc (length ys)
      go true less = omega arith
      go false less = omega arith

  -- ---- starts of a list

  -- What a start holds the list holds,
  pub of-take : (n : ℕ) {x : A} (xs : List A) → Mem x (take n xs) → Mem x xs
  of-take zero xs m = absurd (Memᴰ.not-nil m)
  of-take (suc n) [] m = absurd (Memᴰ.not-nil m)
  of-take (suc n) (y ∷ ys) (here e) = here e
  of-take (suc n) (y ∷ ys) (there m) = there (of-take n ys m)

  -- and a longer start.
  pub take_more : {n n' : ℕ} → n ≤ n' → {x : A} (xs : List A) → Mem x (take n xs) → Mem x (take n' xs)
  take_more {n = zero} le xs m = absurd (Memᴰ.not-nil m)
  take_more {n = suc n} {n' = zero} le xs m = absurd (omega arith)
  take_more {n = suc n} {n' = suc n'} le [] m = absurd (Memᴰ.not-nil m)
  take_more {n = suc n} {n' = suc n'} le (y ∷ ys) (here e) = here e
  take_more {n = suc n} {n' = suc n'} le (y ∷ ys) (there m) = there (take_more {n = n} {n' = n'} (omega arith) ys m)

  -- ---- places

  -- What stands at a place is of the list.
  pub mem-get_d : (xs : List A) (i : ℕ) (d : A) → i < length xs → Mem (get_or xs i d) xs
  mem-get_d [] i d h = absurd (omega arith)
  mem-get_d (x ∷ xs) zero d h = here refl
  mem-get_d (x ∷ xs) (suc i) d h = there (mem-get_d xs i d (omega arith))

  -- Beyond its end a list has nothing.
  pub get_d_beyond : (xs : List A) (i : ℕ) (d : A) → length xs ≤ i → get_or xs i d ≡ d
  get_d_beyond [] i d h = refl
  get_d_beyond (x ∷ xs) zero d h = absurd (omega arith)
  get_d_beyond (x ∷ xs) (suc i) d h = get_d_beyond xs i d (omega arith)

  -- What stands within a list does not depend on what would stand beyond it.
  pub get_d-within : (xs : List A) (i : ℕ) (d e : A) → i < length xs → get_or xs i d ≡ get_or xs i e
  get_d-within [] i d e h = absurd (omega arith)
  get_d-within (x ∷ xs) zero d e h = refl
  get_d-within (x ∷ xs) (suc i) d e h = get_d-within xs i d e (omega arith)

  -- What is of the list stands at a place.
  pub place_of : (d : A) {x : A} {xs : List A} → Mem x xs → (i : ℕ) × (i < length xs) × (get_or xs i d ≡ x)
  place_of d (here e) = (0, omega arith, sym e)
  place_of d (there m) = let (i, h, e) = place_of d m in (suc i, omega arith, e)

-- ---- numbers

-- A search for a number finds it just where it is of the list.
pub named-mem : {j : ℕ} {xs : List ℕ} → Mem j xs → T (exists (eqb j) xs)
named-mem {j} m = exists-mem (eqb j) m (eqb_refl j)

pub of-named : {j : ℕ} (xs : List ℕ) → T (exists (eqb j) xs) → Mem j xs
of-named {j} xs t = let (i, m, u) = of-exists (eqb j) xs t in rw (eqb→eq j i u) m

-- ---- lists that have nothing twice

-- No element of the list comes again in it.
unfoldable pub Apart : {A : Type 0} → List A → Type 0
Apart [] = Unit {0}
Apart (x ∷ xs) = (¬ Mem x xs) × Apart xs

-- Nor does one of a selection.
pub apart-keep : {A : Type 0} (p : A → Bool) (xs : List A) → Apart xs → Apart (keep p xs)
unfolding Apart keep
apart-keep p [] apart = tt
apart-keep {A} p (x ∷ xs) (once, apart) = go (p x) (apart-keep p xs apart)
  where
    go : (b : Bool) → Apart (keep p xs) → Apart (cond b (x ∷ keep p xs) (keep p xs))
    go true rest = (λ m. once (of-keep p xs m).0, rest)
    go false rest = rest

-- ---- an element of least value

pub record Lowest {A : Type 0} (f : A → ℕ) (xs : List A) : Type 0 where
  pub element : A
  pub listed : Mem element xs
  pub least : (x : A) → Mem x xs → f element ≤ f x

-- A list is empty or has one.
pub lowest : {A : Type 0} (f : A → ℕ) (xs : List A) → ((x : A) → Mem x xs → ⊥) ⊎ Lowest f xs
lowest f [] = inl (λ x. Memᴰ.not-nil)
lowest {A} f (x ∷ xs) = inr (go (lowest f xs))
  where
    first : ((z : A) → Mem z xs → f x ≤ f z) → Lowest f (x ∷ xs)
    first le = record { element = x; listed = here refl; least = least }
      where
        least : (z : A) → Mem z (x ∷ xs) → f x ≤ f z
        least z (here e) = rw e (omega arith)
        least z (there m) = le z m

    choose : (l : Lowest f xs) → Dec (f x ≤ f l.element) → Lowest f (x ∷ xs)
    choose l (yes h) = first (λ z m. omega (arith, l.least z m))
    choose l (no h) = record { element = l.element; listed = there l.listed; least = least }
      where
        least : (z : A) → Mem z (x ∷ xs) → f l.element ≤ f z
        least z (here e) = rw e (omega arith)
        least z (there m) = l.least z m

    go : ((z : A) → Mem z xs → ⊥) ⊎ Lowest f xs → Lowest f (x ∷ xs)
    go (inl empty) = first (λ z m. absurd (empty z m))
    go (inr l) = choose l (dec_le (f x) (f l.element))

-- ---- ranges

-- A range holds the numbers from its first on.
pub mem-range : (n k m : ℕ) → n ≤ m → m < n + k → Mem m (range n k)
unfolding range
mem-range n zero m low high = absurd (omega arith)
mem-range n (suc k) m low high = elim (eq-or-lt_of_le low) [ inl e ↦ here (sym e) | inr l ↦ there (mem-range (suc n) k m l (omega arith)) ]

-- It holds no others.
pub of_range : (n k : ℕ) {m : ℕ} → Mem m (range n k) → (n ≤ m) × (m < n + k)
unfolding range
of_range n zero m = absurd (Memᴰ.not-nil m)
of_range n (suc k) (here e) = (omega arith, omega arith)
of_range n (suc k) (there m) = let l = of_range (suc n) k m in (omega arith, omega arith)

-- It goes up to a number and then on from there.
pub range-append : (n k m : ℕ) → range n (k + m) ≡ range n k ++ range (n + k) m
unfolding range
range-append n zero m = rw (zero-add, add-zero)
range-append n (suc k) m =
    let all : suc k + m ≡ suc (k + m) = omega arith in
    let on : n + suc k ≡ suc n + k = omega arith in
    rw (all, on, range-append (suc n) k m)

-- It has nothing twice.
pub apart-range : (n k : ℕ) → Apart (range n k)
unfolding Apart range
apart-range n zero = tt
apart-range n (suc k) = (λ m. let (low, high) = of_range (suc n) k m in omega arith, apart-range (suc n) k)

-- It has so many.
pub length-range : (n k : ℕ) → length (range n k) ≡ k
unfolding range
length-range n zero = refl
length-range n (suc k) = ap suc (length-range (suc n) k)

-- What stands at a place of a function's table.
pub get_d-table : {A : Type 0} (c : ℕ → A) (n k i : ℕ) (d : A) → i < k → get_or (map c (range n k)) i d ≡ c (n + i)
unfolding range
get_d-table c n zero i d h = absurd (omega arith)
get_d-table c n (suc k) zero d h = rw add-zero
get_d-table c n (suc k) (suc i) d h = get_d-table c (suc n) k i d (omega arith) ∙ ap c (omega arith)

-- ---- a range, as a loop goes through it: n is next, and it ends before e

pub range-next : (e n : ℕ) → n < e → range n (e - n) ≡ n ∷ range (n + 1) (e - (n + 1))
unfolding range
range-next e n l = let m : e - n ≡ suc (e - (n + 1)) = omega arith in rw (m, add-one)

pub range-end : (e n : ℕ) → e ≤ n → range n (e - n) ≡ []
unfolding range
range-end e n l = let m : e - n ≡ 0 = omega arith in rw m

module _ (p : ℕ → Bool) (e n : ℕ) where
  -- A search for a number that passes stops at one.
  pub exists-stop : (b : Bool) → n < e → b ≡ p n → b ≡ true → true ≡ exists p (range n (e - n))
  unfolding exists
  exists-stop b l is passes = rw (range-next e n l, ← is, passes)

  -- It goes on after one that fails.
  pub exists-go : (b : Bool) → n < e → b ≡ p n → b ≡ false → exists p (range (n + 1) (e - (n + 1))) ≡ exists p (range n (e - n))
  unfolding exists
  exists-go b l is fails = rw (range-next e n l, ← is, fails)

  -- At the end there is none.
  pub exists-end : e ≤ n → false ≡ exists p (range n (e - n))
  unfolding exists
  exists-end l = rw (range-end e n l)

-- ---- combinations

module _ {A B : Type 0} (f : A → List B) {y : B} where
  -- What one of the lists joined holds is in the join.
  mem-flat_map : {x : A} (xs : List A) → Mem x xs → Mem y (f x) → Mem y (flat_map f xs)
  unfolding flat_map
  mem-flat_map [] x3 m = elim x3 [ ]
  mem-flat_map (z ∷ zs) (here e) m = Memᴰ.append_left (flat_map f zs) (rw e at m)
  mem-flat_map (z ∷ zs) (there n) m = Memᴰ.append_right (f z) (mem-flat_map zs n m)

  -- What the join holds one of the lists holds.
  pub of-flat_map : (xs : List A) → Mem y (flat_map f xs) → (x : A) × Mem x xs × Mem y (f x)
  unfolding flat_map
  of-flat_map [] m = absurd (Memᴰ.not-nil m)
  of-flat_map (x ∷ xs) m =
      elim (Memᴰ.append_cases (f x) m) [
        | inl now ↦ (x, here refl, now)
        | inr later ↦ let (z, l, n) = of-flat_map xs later in (z, there l, n)
      ]

-- Where two functions agree on a list, so do their images.
pub map_same : {A B : Type 0} {f g : A → B} (xs : List A) → ((x : A) → Mem x xs → f x ≡ g x) → map f xs ≡ map g xs
map_same [] same = refl
map_same (x ∷ xs) same = ap₂ ◌∷◌ (same x (here refl)) (map_same xs (λ y m. same y (there m)))

-- What a mapped list holds is an image.
pub of_map : {A B : Type 0} (f : A → B) {y : B} (xs : List A) → Mem y (map f xs) → (x : A) × Mem x xs × (y ≡ f x)
of_map f [] m = absurd (Memᴰ.not-nil m)
of_map f (x ∷ xs) (here e) = (x, here refl, e)
of_map f (x ∷ xs) (there m) = let (z, l, e) = of_map f xs m in (z, there l, e)

module _ {A : Type 0} where
  -- A list of one choice from each list is a combination of them.
  pub mem-combinations : (c : ℕ → A) (cs : ℕ → List A) (js : List ℕ) → ((j : ℕ) → Mem j js → Mem (c j) (cs j)) → Mem (map c js) (combinations (map cs js))
  unfolding combinations
  mem-combinations c cs [] m = here refl
  mem-combinations c cs (j ∷ js) m =
      mem-flat_map _ (cs j) (m j (here refl)) (Memᴰ.map (λ (t : List A). c j ∷ t) (mem-combinations c cs js (λ i l. m i (there l))))

  -- At each place a combination has an element of that place's list.
  pub of-combinations : (cs : ℕ → List A) (n k : ℕ) {t : List A} (d : A) → Mem t (combinations (map cs (range n k)))
      → (i : ℕ) → i < k → Mem (get_or t i d) (cs (n + i))
  unfolding combinations range
  of-combinations cs n zero d m i h = absurd (omega arith)
  of-combinations cs n (suc k) {t} d m i h =
      let (x, l, o) = of-flat_map _ (cs n) m in
      let (u, r, e) = of_map (λ (v : List A). x ∷ v) (combinations (map cs (range (suc n) k))) o in
      rw e (place i h x l u (λ j. of-combinations cs (suc n) k d r j))
    where
      place : (i : ℕ) → i < suc k → (x : A) → Mem x (cs n) → (u : List A) → ((j : ℕ) → j < k → Mem (get_or u j d) (cs (suc n + j)))
          → Mem (get_or (x ∷ u) i d) (cs (n + i))
      place zero h x l u later = rw add-zero l
      place (suc i) h x l u later = let same : suc n + i ≡ n + suc i = omega arith in rw same at (later i (omega arith))

-- ---- selections by the values, and by two tests

-- To map what a test of the values keeps is to keep of the mapped list.
pub map-keep : {A B : Type 0} (f : A → B) (q : B → Bool) (xs : List A) → map f (keep (λ x. q (f x)) xs) ≡ keep q (map f xs)
unfolding keep
map-keep f q [] = refl
map-keep {A} {B} f q (x ∷ xs) = go (q (f x)) (map-keep f q xs)
  where
    go : (b : Bool) → map f (keep (λ y. q (f y)) xs) ≡ keep q (map f xs)
        → map f (cond b (x ∷ keep (λ y. q (f y)) xs) (keep (λ y. q (f y)) xs)) ≡ cond b (f x ∷ keep q (map f xs)) (keep q (map f xs))
    go true ih = ap {B = List B} (λ r. f x ∷ r) ih
    go false ih = ih

module _ {A : Type 0} where
  -- To keep by two tests is to keep by both at once.
  pub keep-keep : (p q : A → Bool) (xs : List A) → keep q (keep p xs) ≡ keep (λ x. q x && p x) xs
  unfolding keep
  keep-keep p q [] = refl
  keep-keep p q (x ∷ xs) = fold-keep (keep q) (λ y r. cond (q y) (y ∷ r) r) (λ y ys. refl) p x xs ∙ rw (keep-keep p q xs) (go (q x) (p x))
    where
      go : (a b : Bool) → let r : List A = keep (λ y. q y && p y) xs in cond b (cond a (x ∷ r) r) r ≡ cond (a && b) (x ∷ r) r
      go true true = refl
      go true false = refl
      go false true = refl
      go false false = refl

  -- A list is what stands at its places.
  pub list-places : (d : A) (xs : List A) → map (λ i. get_or xs i d) (range 0 (length xs)) ≡ xs
  list-places d xs =
      let size : length (map (λ i. get_or xs i d) (range 0 (length xs))) ≡ length xs = length-map (range 0 (length xs)) (λ i. get_or xs i d) ∙ length-range 0 (length xs) in
      ext_get_or d _ xs size (λ i l. get_d-table (λ i. get_or xs i d) 0 (length xs) i d (rw size at l) ∙ ap (λ (j : ℕ). get_or xs j d) (zero-add i))

  -- ---- parts of a list

  -- A part of a list's start is one of the list.
  part-of-start : (n a b : ℕ) (xs : List A) → a + n ≤ b → take n (drop a (take b xs)) ≡ take n (drop a xs)
  part-of-start n zero b xs h = take-take n b xs (omega arith)
  part-of-start n (suc a) zero xs h = absurd (omega arith)
  part-of-start n (suc a) (suc b) [] h = refl
  part-of-start n (suc a) (suc b) (x ∷ xs) h = part-of-start n a b xs (omega arith)

  -- Something comes behind a list: a part of the list stays.
  pub part-start : (n a : ℕ) (xs zs : List A) → a + n ≤ length xs → take n (drop a (xs ++ zs)) ≡ take n (drop a xs)
  part-start n a xs zs h = ap (take n) (drop-append-le a xs zs (omega arith)) ∙ take-append-le n (drop a xs) zs (omega (arith, length-drop a xs))

  -- A list is written anew from place b on: a part before stays,
  pub part-before : (n a b : ℕ) (xs zs : List A) → a + n ≤ b → b ≤ length xs → take n (drop a (take b xs ++ zs)) ≡ take n (drop a xs)
  part-before n a b xs zs h g =
      let same : take b (take b xs ++ zs) ≡ take b xs = take_at (take b xs) zs b (length-take-le b xs g) in
      sym (part-of-start n a b (take b xs ++ zs) h) ∙ ap (λ (l : List A). take n (drop a l)) same ∙ part-of-start n a b xs h

  -- and the part from there on is what was written.
  pub part-written : (n b : ℕ) (xs ys zs : List A) → b ≤ length xs → n ≤ length ys → take n (drop b (take b xs ++ (ys ++ zs))) ≡ take n ys
  part-written n b xs ys zs g h = rw (drop_at (take b xs) (ys ++ zs) b (length-take-le b xs g)) (take-append-le n ys zs h)
