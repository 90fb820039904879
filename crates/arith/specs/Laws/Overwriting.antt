-- A list that is written over another from its start: each write comes behind what was written before.
use Rattle.std.specs.Prelude.{ℕ, suc, ◌+◌, ◌-◌, ◌≤◌, ◌<◌, ◌≡◌, refl, List, [], ◌∷◌, ◌++◌, length, get_or, set, take, drop}
use Rattle.std.proofs.Common.{sym, ◌∙◌, append_assoc, append-nil, add-one, arith, length-append, length-take, length-drop, take_all, length-take-le, take_at, drop_at, drop-drop, take-add, take-suc, drop-cons}
use Rattle.std.proofs.Math.Seq.{drop-length, append_snoc}
use Rattle.std.proofs.lemmas.List.{set_at}
use borrow.Rule.Slice.PartMut.{mid_of, put_mid}

-- l is d, with p in the place of its first k elements
pub record Begun (p d l : List ℕ) (k : ℕ) : Type 0 where
  pub count : length p ≡ k
  pub is : l ≡ p ++ drop k d

-- Nothing is written.
pub begun-none : (d : List ℕ) → Begun [] d d 0
begun-none d = record { count = refl; is = refl }

module _ (p d l : List ℕ) (k : ℕ) (b : Begun p d l k) where
  -- A part more.
  pub begun-part : (q : List ℕ) (w : ℕ) → length q ≡ w → Begun (p ++ q) d (put_mid k w l q) (k + w)
  begun-part q w size = record {
    count = length-append p q ∙ omega (arith, b.count);
    is = rw (b.is, take_at p (drop k d) k b.count, drop_at p (drop k d) k b.count, drop-drop) (sym (append_assoc p q (drop (k + w) d)));
  }

  -- A part more, by a writer that fills parts of any width.
  pub begun-filled : (fill : ℕ → List ℕ) → ((w : ℕ) → length (fill w) ≡ w) → (q : List ℕ) (w : ℕ) → k + w ≤ length d
      → q ≡ fill (length (mid_of k w l)) → Begun (p ++ fill w) d (put_mid k w l q) (k + w)
  begun-filled fill size q w h e =
      let wide : length (mid_of k w l) ≡ w = rw (b.is, drop_at p (drop k d) k b.count) (simp (length-take, length-drop) (omega arith)) in
      rw (e, wide) (begun-part (fill w) w (size w))

  -- An element more.
  pub begun-element : (v : ℕ) → k < length d → Begun (p ++ (v ∷ [])) d (set l k v) (k + 1)
  begun-element v h = record {
    count = length-append p (v ∷ []) ∙ omega (arith, b.count);
    is = rw (b.is, drop-cons d k 0 h, set_at p (get_or d k 0) (drop (suc k) d) v k b.count, add-one k) (sym (append_snoc p v (drop (suc k) d)));
  }

  -- All of d.
  pub begun_all : length d ≡ k → l ≡ p
  begun_all size = b.is ∙ rw (← size, drop-length d) (append-nil p)

-- ---- a loop that writes a list s

-- d, with the first k elements of s in the place of its own
abbrev pub over : List ℕ → ℕ → List ℕ → List ℕ
over s k d = take k s ++ drop k d

module _ (s d l : List ℕ) (n : ℕ) (size : length s ≡ n) where
  begun : (k : ℕ) → k ≤ n → l ≡ over s k d → Begun (take k s) d l k
  begun k h is = record { count = length-take-le k s (omega arith); is = is }

  -- An element more.
  pub over-element : (k v : ℕ) → l ≡ over s k d → k < n → k < length d → v ≡ get_or s k 0 → set l k v ≡ over s (k + 1) d
  over-element k v is h g e = (begun-element (take k s) d l k (begun k (omega arith) is) v g).is ∙ rw (add-one k, take-suc s k 0 (omega arith), e)

  -- A part more.
  pub over-part : (p : List ℕ) (a b w from to : ℕ) → l ≡ over s a d → from ≡ a → to ≡ b → a + w ≡ b → b ≤ n → p ≡ take w (drop a s)
      → put_mid from (to - from) l p ≡ over s b d
  over-part p a b w from to is at end wide h q =
      let z : b - a ≡ w = omega arith in
      let fits : length p ≡ w = rw q (simp (length-take, length-drop) (omega arith)) in
      rw (at, end, z) ((begun-part (take a s) d l a (begun a (omega arith) is) p w fits).is ∙ rw (q, ← wide, take-add a w s))

  -- All of it.
  pub over-all : (k : ℕ) → l ≡ over s k d → k ≤ n → n ≤ k → l ≡ s ++ drop n d
  over-all k is low high = let e : k ≡ n = omega arith in rw (is, e, take_all n s (omega arith))
