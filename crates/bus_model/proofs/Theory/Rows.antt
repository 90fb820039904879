-- Sums over the rows of a table whose frame passes a test.
-- Unlike a sum over the frames, such a sum may give each row a value of its own, as the number of its instances sent.
use Rattle.std.specs.Prelude.{ℕ, ◌+◌, ◌≤◌, ◌<◌, ◌≡◌, refl, List, ◌≢◌, Bool, true, false, cond, T, length}
use Rattle.std.proofs.Common.{◌∙◌, le_refl, leb→le, le→leb, ltb→lt, lt→ltb}
use native.Mathlib.Omega.{arith}
use Rattle.std.proofs.Math.Nat.{lt_irrefl}
use Rattle.arith.specs.Lists.{sum, keep, range}
use Rattle.arith.specs.Laws.Members.{of_range}
use Rattle.arith.specs.Laws.Tests.{cond_yes, cond_no, cond-le}
use Rattle.arith.specs.Laws.Sums.{sum-none, sum-keep, sum-places, sum-at, sum-le}
use Rattle.bus_model.specs.Frame.{no_frame, row}
use Rattle.bus_model.specs.Valid.{Valid}
use Rattle.bus_model.specs.Bounds.{is_ahead, is_better, ahead, better}
use Rattle.bus_model.specs.declared.Frame.{Frame}

-- what row i counts for: v i, where its frame passes
abbrev term : List Frame → (Frame → Bool) → (ℕ → ℕ) → ℕ → ℕ
term fs p v i = cond (p (row fs i)) (v i) 0

-- the sum of v over the rows whose frame passes
pub over_rows : List Frame → (Frame → Bool) → (ℕ → ℕ) → ℕ
over_rows fs p v = sum (term fs p v) (range 0 (length fs))

-- A sum over the frames kept is a sum over their rows.
pub sum_rows : (fs : List Frame) (p : Frame → Bool) (w : Frame → ℕ) → sum w (keep p fs) ≡ over_rows fs p (λ i. w (row fs i))
unfolding over_rows
sum_rows fs p w = sum-keep p w fs ∙ sum-places (λ g. cond (p g) (w g) 0) no_frame fs

module _ (fs : List Frame) (p : Frame → Bool) {u v : ℕ → ℕ} (le : (i : ℕ) → i < length fs → T (p (row fs i)) → u i ≤ v i) where
  -- A row counts for more where its value is more.
  term-le : (i : ℕ) → i < length fs → term fs p u i ≤ term fs p v i
  term-le i l = cond-le (p (row fs i)) (p (row fs i)) (u i) (v i) (λ t. (t, le i l t))

  -- The sum grows with the values.
  pub rows-le : over_rows fs p u ≤ over_rows fs p v
  unfolding over_rows
  rows-le = sum-le (range 0 (length fs)) (λ i m. let (low, high) = of_range 0 (length fs) m in term-le i (omega arith))

  -- It grows by c at least where one of the rows does.
  pub rows_more : (i c : ℕ) → i < length fs → T (p (row fs i)) → c + u i ≤ v i → c + over_rows fs p u ≤ over_rows fs p v
  unfolding over_rows
  rows_more i c l t more =
      let first = cond_yes (p (row fs i)) (u i) 0 t in
      let second = cond_yes (p (row fs i)) (v i) 0 t in
      omega (arith, sum-at (term fs p u) (term fs p v) c 0 0 (length fs) i (omega arith) (omega arith) (λ j low high ne. term-le j (omega arith)) (omega arith))

-- A sum of nothing is 0.
pub rows_none : (fs : List Frame) (p : Frame → Bool) (v : ℕ → ℕ) → ((i : ℕ) → v i ≡ 0) → over_rows fs p v ≡ 0
unfolding over_rows
rows_none fs p v none = sum-none (range 0 (length fs)) (λ i m. go (p (row fs i)) (none i))
  where
    go : (b : Bool) {n : ℕ} → n ≡ 0 → cond b n 0 ≡ 0
    go true e = e
    go false e = refl

-- A sum grows by c at most where one row's value does, and no other's grows.
pub rows-most : (fs : List Frame) (p : Frame → Bool) (u v : ℕ → ℕ) (i c : ℕ) → i < length fs → v i ≤ c + u i → ((j : ℕ) → j ≢ i → v j ≤ u j)
    → over_rows fs p v ≤ c + over_rows fs p u
unfolding over_rows
rows-most fs p u v i c l more same =
    let most = sum-at (term fs p v) (term fs p u) 0 c 0 (length fs) i (omega arith) (omega arith)
    (λ j low high ne. cond-le (p (row fs j)) (p (row fs j)) (v j) (u j) (λ t. (t, same j ne))) (go (p (row fs i))) in
    omega arith
  where
    go : (b : Bool) → 0 + cond b (v i) 0 ≤ c + cond b (u i) 0
    go true = omega arith
    go false = omega arith

-- ---- the rows ahead of row k

module _ {fs : List Frame} (valid : Valid fs) {k : ℕ} (inside : k < length fs) where
  -- The sum over the rows ahead is that over the better ones and row k's own value.
  pub rows_split : (v : ℕ → ℕ) → over_rows fs (is_ahead (row fs k)) v ≡ over_rows fs (is_better (row fs k)) v + v k
  unfolding over_rows
  rows_split v =
      let r = f.priority in
      let own = cond_yes (is_ahead f f) (v k) 0 (le→leb r r (le_refl r)) in
      let not-better = cond_no (is_better f f) (v k) 0 (λ t. lt_irrefl r (ltb→lt r r t)) in
      let most = sum-at (term fs (is_ahead f) v) (term fs (is_better f) v) 0 (v k) 0 (length fs) k (omega arith) (omega arith) (λ i low high ne. ahead-better i (omega arith) ne) (omega arith) in
      let least = sum-at (term fs (is_better f) v) (term fs (is_ahead f) v) (v k) 0 0 (length fs) k (omega arith) (omega arith) (λ i low high ne. better-ahead i) (omega arith) in
      omega arith
    where
      f : Frame
      f = row fs k

      ahead-better : (i : ℕ) → i < length fs → i ≢ k → term fs (is_ahead f) v i ≤ term fs (is_better f) v i
      ahead-better i l ne =
          let differ : (row fs i).priority ≢ f.priority = λ e. ne (valid.distinct i k l inside e) in
          cond-le (is_ahead f (row fs i)) (is_better f (row fs i)) (v i) (v i) (λ t. (omega (arith, leb→le, lt→ltb), omega arith))

      better-ahead : (i : ℕ) → term fs (is_better f) v i ≤ term fs (is_ahead f) v i
      better-ahead i = cond-le (is_better f (row fs i)) (is_ahead f (row fs i)) (v i) (v i) (λ t. (omega (arith, ltb→lt, le→leb), omega arith))

  -- The same of a sum over the frames.
  pub ahead-sum : (w : Frame → ℕ) → sum w (ahead fs (row fs k)) ≡ sum w (better fs (row fs k)) + w (row fs k)
  unfolding ahead better
  ahead-sum w = rw (sum_rows fs (is_ahead (row fs k)) w, sum_rows fs (is_better (row fs k)) w) (rows_split (λ i. w (row fs i)))
