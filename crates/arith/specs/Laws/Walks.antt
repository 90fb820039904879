-- Loops that go once through a list. Most go up: through a range, or through those numbers of it that pass a test, found one
-- after the other by a least search. `join done (F rest)` is what such a loop is to find, where `done` is what it has gathered
-- and `rest` is what is left: sums, greatest values, counts and selections are each an F and a join.
use Prim.Native.Nat.{ℕ, zero, suc, ◌+◌, ◌-◌, ◌≤◌, ◌<◌, max}
use Rattle.std.proofs.Math.Path.{◌≡◌, refl}
use Rattle.std.proofs.Common.{sym, ap, ◌∙◌, drop_of_length-le, drop-cons}
use mathlib.Core.List.{List, [], ◌∷◌, ◌++◌, Memᴰ as Mem}
use Rattle.std.specs.Prelude.{Bool, length, get_or, drop, Option, Some, None}
use Rattle.std.proofs.Math.Bool.{true, false, cond}
use Rattle.std.proofs.Math.Nat.{sub-zero}
use Rattle.std.proofs.Math.Numerals.{add-one}
use native.Mathlib.Omega.{arith}
use Rattle.std.proofs.Math.Seq.{drop-length, append_snoc}
use Rattle.arith.specs.Lists.{sum, greatest, keep, range}
use Rattle.arith.specs.Least.{least}
use Rattle.arith.specs.Laws.Members.{mem-keep, mem-range}
use Rattle.arith.specs.Laws.Least.{least-within}

-- ---- one element more: how a loop's body carries it from what is left to what is done

module _ {X : Type 0} where
  -- a sum
  pub sum_more : (f : X → ℕ) (done : ℕ) (a : X) {next : ℕ} → next ≡ done + f a → (xs : List X) → done + sum f (a ∷ xs) ≡ next + sum f xs
  unfolding sum
  sum_more f done a e xs = omega arith

  -- a greatest value
  pub greatest-more : (f : X → ℕ) (done : ℕ) (a : X) {next : ℕ} → next ≡ max done (f a) → (xs : List X) → max done (greatest f (a ∷ xs)) ≡ max next (greatest f xs)
  unfolding greatest
  greatest-more f done a e xs = omega arith

  -- a count
  pub length_more : (done : ℕ) (a : X) (xs : List X) → done + length (a ∷ xs) ≡ done + 1 + length xs
  length_more done a xs = omega arith

  -- a selection
  pub keep-more : (p : X → Bool) (done : List X) (a : X) {next : List X} → p a ≡ true → next ≡ done ++ (a ∷ []) → (xs : List X) → done ++ keep p (a ∷ xs) ≡ next ++ keep p xs
  unfolding keep
  keep-more p done a t e xs = rw (e, t) (sym (append_snoc done a (keep p xs)))

  pub keep-less : (p : X → Bool) (done : List X) (a : X) → p a ≡ false → (xs : List X) → done ++ keep p (a ∷ xs) ≡ done ++ keep p xs
  unfolding keep
  keep-less p done a f xs = rw f

-- ---- through a range

pub record CountUp {A B : Type 0} (F : List ℕ → B) (join : A → B → B) (e : ℕ) (goal : B) (done : A) (n : ℕ) : Type 0 where
  pub inside : n ≤ e
  pub is : join done (F (range n (e - n))) ≡ goal

module _ {A B : Type 0} (F : List ℕ → B) (join : A → B → B) (e : ℕ) (goal : B) where
  -- It starts at 0.
  pub count-start : {done : A} → join done (F (range 0 e)) ≡ goal → CountUp F join e goal done 0
  count-start g = record { inside = omega arith; is = rw sub-zero g }

  -- It goes on to the next number.
  pub count-more : {done next : A} {n : ℕ} → CountUp F join e goal done n → n < e → ((xs : List ℕ) → join done (F (n ∷ xs)) ≡ join next (F xs))
      → CountUp F join e goal next (n + 1)
  unfolding range
  count-more {n = n} c less step =
      let left : e - n ≡ suc (e - suc n) = omega arith in
      record { inside = omega arith; is = rw add-one (sym (step _) ∙ (rw left at c.is)) }

  -- It ends at e.
  pub count-end : {done : A} {n : ℕ} → CountUp F join e goal done n → e ≤ n → join done (F []) ≡ goal
  unfolding range
  count-end {n = n} c over = let left : e - n ≡ 0 = omega arith in rw left at c.is

-- ---- through the numbers that pass

module _ (p : ℕ → Bool) where
  kept_at : (k n b : ℕ) → least p k n ≡ Some b → keep p (range n k) ≡ b ∷ keep p (range (suc b) (n + k - suc b))
  unfolding least keep range
  kept_at zero n b q = let z : ◌≡◌ {A = ℕ} 0 1 = cc in absurd (omega arith)
  kept_at (suc k) n b q = go (p n) (kept_at k (suc n) b) q
    where
      go : (c : Bool) → (least p k (suc n) ≡ Some b → keep p (range (suc n) k) ≡ b ∷ keep p (range (suc b) (suc n + k - suc b)))
          → elim c as (λ (d : Bool). (Option ℕ)) [ true ↦ Some n | false ↦ least p k (suc n) ] ≡ Some b
          → cond c (n ∷ keep p (range (suc n) k)) (keep p (range (suc n) k)) ≡ b ∷ keep p (range (suc b) (n + suc k - suc b))
      go true later r = let same : n ≡ b = cc in let rest : b + suc k - suc b ≡ k = omega arith in rw same (rw rest)
      go false later r = let next : suc n + k ≡ n + suc k = omega arith in rw next at (later r)

  kept-none : (k n : ℕ) → least p k n ≡ None → keep p (range n k) ≡ []
  unfolding least keep range
  kept-none zero n q = refl
  kept-none (suc k) n q = go (p n) (kept-none k (suc n)) q
    where
      go : (c : Bool) → (least p k (suc n) ≡ None → keep p (range (suc n) k) ≡ [])
          → elim c as (λ (d : Bool). (Option ℕ)) [ true ↦ Some n | false ↦ least p k (suc n) ] ≡ None
          → cond c (n ∷ keep p (range (suc n) k)) (keep p (range (suc n) k)) ≡ []
      go true later r = let z : ◌≡◌ {A = ℕ} 0 1 = cc in absurd (omega arith)
      go false later r = later r

  -- Of the numbers n .. e - 1 that pass, the first is the one that the search finds, and the others come after it.
  pub keep-next : (e n b : ℕ) → least p (e - n) n ≡ Some b → keep p (range n (e - n)) ≡ b ∷ keep p (range (suc b) (e - suc b))
  keep-next e n b found =
      let (low, high, t) = least-within p e found in
      let end : n + (e - n) ≡ e = omega arith in
      rw end at (kept_at (e - n) n b found)

  -- What it finds is one of all of them.
  pub keep-found : (e n : ℕ) {b : ℕ} {found : Option ℕ} → found ≡ least p (e - n) n → found ≡ Some b → Mem b (keep p (range 0 e))
  keep-found e n {b} is at = let (low, high, t) = least-within p e (sym is ∙ at) in mem-keep p (mem-range 0 e b (omega arith) (omega arith)) t

  -- There are none where it finds none.
  pub keep-end : (e n : ℕ) → least p (e - n) n ≡ None → keep p (range n (e - n)) ≡ []
  keep-end e n none = kept-none (e - n) n none

-- The walk stands at a, the first of what is left.
pub record Walk {A B : Type 0} (F : List ℕ → B) (join : A → B → B) (p : ℕ → Bool) (e : ℕ) (goal : B) (done : A) (a : ℕ) : Type 0 where
  pub inside : a < e
  pub is : join done (F (a ∷ keep p (range (suc a) (e - suc a)))) ≡ goal

module _ {A B : Type 0} (F : List ℕ → B) (join : A → B → B) (p : ℕ → Bool) (e : ℕ) (goal : B) where
  -- It starts at the first of a list whose others pass and come after it.
  pub walk_start : {done : A} {a : ℕ} (xs : List ℕ) → a < e → xs ≡ a ∷ keep p (range (suc a) (e - suc a)) → join done (F xs) ≡ goal
      → Walk F join p e goal done a
  walk_start xs inside first g = record { inside = inside; is = rw first at g }

  -- It goes on to the next number that passes.
  pub walk_more : {done next : A} {a b : ℕ} → Walk F join p e goal done a → ((xs : List ℕ) → join done (F (a ∷ xs)) ≡ join next (F xs))
      → least p (e - (a + 1)) (a + 1) ≡ Some b → Walk F join p e goal next b
  walk_more {a = a} {b} w step found =
      let after : least p (e - suc a) (suc a) ≡ Some b = rw add-one at found in
      let (low, high, t) = least-within p e after in
      record { inside = high; is = rw (keep-next p e (suc a) b after) at (sym (step _) ∙ w.is) }

  -- That is nearer to e.
  pub walk-less : {done : A} {a b : ℕ} → Walk F join p e goal done a → least p (e - (a + 1)) (a + 1) ≡ Some b → e - b < e - a
  walk-less w found = let (low, high, t) = least-within p e found in omega arith

  -- It ends where no more passes.
  pub walk_end : {done next : A} {a : ℕ} → Walk F join p e goal done a → ((xs : List ℕ) → join done (F (a ∷ xs)) ≡ join next (F xs))
      → least p (e - (a + 1)) (a + 1) ≡ None → join next (F []) ≡ goal
  walk_end {a = a} w step none =
      let over : least p (e - suc a) (suc a) ≡ None = rw add-one at none in
      rw (keep-end p e (suc a) over) at (sym (step _) ∙ w.is)

-- ---- through a list

pub record Through {X A B : Type 0} (F : List X → B) (join : A → B → B) (xs : List X) (goal : B) (done : A) (i : ℕ) : Type 0 where
  pub inside : i ≤ length xs
  pub is : join done (F (drop i xs)) ≡ goal

module _ {X A B : Type 0} (F : List X → B) (join : A → B → B) (xs : List X) (goal : B) where
  -- It starts at the first element.
  pub through-start : {done : A} → join done (F xs) ≡ goal → Through F join xs goal done 0
  through-start g = record { inside = omega arith; is = g }

  -- It goes on to the next one.
  pub through-more : (d : X) {done next : A} {i : ℕ} → Through F join xs goal done i → i < length xs
      → ((ys : List X) → join done (F (get_or xs i d ∷ ys)) ≡ join next (F ys)) → Through F join xs goal next (i + 1)
  through-more d {i = i} t less step =
      record { inside = omega arith; is = rw add-one (sym (step (drop (suc i) xs)) ∙ (rw (drop-cons xs i d less) at t.is)) }

  -- It ends after the last.
  pub through-end : {done : A} {i : ℕ} → Through F join xs goal done i → length xs ≤ i → join done (F []) ≡ goal
  through-end {i = i} t over = rw (drop_of_length-le xs {i = i} over) at t.is

-- ---- down through the elements of a list

-- The loop has come down to place i: acc is the fold F of the elements from there on.
pub record Down {X B : Type 0} (F : List X → B) (xs : List X) (acc : B) (i : ℕ) : Type 0 where
  pub inside : i ≤ length xs
  pub is : acc ≡ F (drop i xs)

module _ {X B : Type 0} (F : List X → B) (xs : List X) where
  -- It starts behind the last element.
  pub down-start : {z : B} → z ≡ F [] → Down F xs z (length xs)
  down-start e = record { inside = omega arith; is = e ∙ ap F (sym (drop-length xs)) }

  -- It takes the element before, and `step` is what an element more does to the fold.
  pub down-more : (step : X → B → B) → ((x : X) (ys : List X) → F (x ∷ ys) ≡ step x (F ys))
      → (d : X) {i : ℕ} {x : X} {acc next : B} → Down F xs acc i → 0 < i → x ≡ get_or xs (i - 1) d → next ≡ step x acc → Down F xs next (i - 1)
  down-more step cons d {i} {x} t pos read is =
      let after : suc (i - 1) ≡ i = omega arith in
      record {
        inside = omega (arith, t.inside);
        is = is ∙ ap (step x) t.is ∙ sym (cons x (drop i xs)) ∙ ap (λ y. F (y ∷ drop i xs)) read ∙ ap F (sym (rw after at (drop-cons xs (i - 1) d (omega (arith, t.inside)))));
      }

  -- It ends with the first.
  pub down-end : {acc : B} {i : ℕ} → Down F xs acc i → i ≤ 0 → acc ≡ F xs
  down-end {i = i} t over = let first : i ≡ 0 = omega arith in rw first at t.is
