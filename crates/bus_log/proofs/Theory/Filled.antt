-- A list that a loop fills with the values of a function.
use Rattle.std.specs.Prelude.{ℕ, ◌+◌, ◌≤◌, ◌<◌, ◌≡◌, List, [], ◌++◌, map, length, set, drop}
use Rattle.std.proofs.Common.{sym, ap, ◌∙◌, append-nil, zero-add, arith}
use Rattle.std.proofs.lemmas.List.{length-map}
use Rattle.std.proofs.Math.Seq.{drop-length}
use Rattle.arith.specs.Lists.{range}
use Rattle.arith.specs.Laws.Members.{length-range, get_d-table}
use Rattle.arith.specs.Laws.Overwriting.{over, over-element, over-all}

module _ (f : ℕ → ℕ) (n : ℕ) (d l : List ℕ) (size : length d ≡ n) where
  abbrev values : List ℕ
  values = map f (range 0 n)

  count : length values ≡ n
  count = length-map (range 0 n) f ∙ length-range 0 n

  -- A value more.
  pub fill_more : (k v : ℕ) → l ≡ over values k d → k < n → v ≡ f k → set l k v ≡ over values (k + 1) d
  fill_more k v is h e = over-element values d l n count k v is h (omega arith) (e ∙ sym (get_d-table f 0 n k 0 h ∙ ap f (zero-add k)))

  -- All of them.
  pub fill-all : (k : ℕ) → l ≡ over values k d → k ≤ n → n ≤ k → l ≡ values
  fill-all k is low high = over-all values d l n count k is low high ∙ ap {B = List ℕ} (λ (r : List ℕ). values ++ r) none ∙ append-nil values
    where
      none : drop n d ≡ []
      none = rw (← size) (drop-length d)
