-- The least common multiple of frames' periods, as a loop that goes down through a table finds it.
use Rattle.std.specs.Prelude.{ℕ, zero, suc, ◌-◌, ◌≤◌, ◌<◌, ◌≡◌, Bool, true, false, cond, List, ◌∷◌, length}
use Rattle.std.proofs.Math.Path.{refl}
use Rattle.std.proofs.Common.{le_refl, le_trans, arith}
use Rattle.std.proofs.Math.Dec.{eqb}
use Rattle.arith.specs.Lists.{keep}
use Rattle.arith.specs.Multiples.{lcm, lcm_of}
use Rattle.arith.specs.Laws.Members.{fold-keep}
use Rattle.arith.specs.Laws.Multiples.{lcm-ge-second}
use Rattle.arith.specs.Laws.Walks.{Down, down-start, down-more, down-end}
use Rattle.bus_model.specs.declared.Frame.{Frame}
use Rattle.bus_model.specs.Frame.{no_frame, row}
use Rattle.bus_model.specs.Pattern.{of_group, hyperperiod}
use Rattle.bus_model.specs.Theory.Hyperperiod.{hyper_of}

-- of those frames that pass a test
abbrev pub common_of : (Frame → Bool) → List Frame → ℕ
common_of p gs = hyperperiod (keep p gs)

-- what a frame more makes of it
abbrev pub join_by : (Frame → Bool) → Frame → ℕ → ℕ
join_by p g h = cond (p g) (lcm g.period h) h

common-cons : (p : Frame → Bool) (g : Frame) (gs : List Frame) → common_of p (g ∷ gs) ≡ join_by p g (common_of p gs)
common-cons p g gs = fold-keep hyperperiod (λ x. lcm x.period) (λ x xs. unfold hyperperiod lcm_of in refl) p g gs

join-ge : (p : Frame → Bool) (g : Frame) (h : ℕ) → 0 < g.period → h ≤ join_by p g h
join-ge p g h pos = go (p g)
  where
    go : (b : Bool) → h ≤ cond b (lcm g.period h) h
    go true = lcm-ge-second g.period h pos
    go false = le_refl h

module _ (fs : List Frame) (p : Frame → Bool) where
  -- The loop starts at 1.
  pub common-none : Down (common_of p) fs 1 (length fs)
  unfolding hyperperiod lcm_of keep
  common-none = down-start (common_of p) fs refl

  module _ (periods : (i : ℕ) → i < length fs → 1 ≤ (row fs i).period) where
    -- It takes one frame more, which never lowers the multiple.
    pub common-more : {i : ℕ} {g : Frame} {h r : ℕ} → Down (common_of p) fs h i → 0 < i → g ≡ row fs (i - 1) → r ≡ join_by p g h
        → Down (common_of p) fs r (i - 1) × (h ≤ r)
    common-more {i} {h = h} t pos is e =
        (down-more (common_of p) fs (join_by p) (common-cons p) no_frame t pos is e, rw (e, is) (join-ge p (row fs (i - 1)) h (periods (i - 1) (omega (arith, t.inside)))))

    -- So that of the frames read is at most that of all.
    pub common-le : (i h : ℕ) → Down (common_of p) fs h i → h ≤ common_of p fs
    common-le zero h t = omega (arith, down-end (common_of p) fs t (le_refl zero))
    common-le (suc i) h t =
        let s : suc i - 1 ≡ i = omega arith in
        let next = rw s at (common-more t (omega arith) refl refl) in
        le_trans next.1 (common-le i _ next.0)

abbrev pub join_of : ℕ → Frame → ℕ → ℕ
join_of j g h = join_by (λ f. eqb f.group j) g h

module _ (fs : List Frame) (j : ℕ) (periods : (i : ℕ) → i < length fs → 1 ≤ (row fs i).period) where
  pub hyper-more : {i : ℕ} {g : Frame} {h r : ℕ} → Down (hyper_of j) fs h i → 0 < i → g ≡ row fs (i - 1) → r ≡ join_of j g h
      → Down (hyper_of j) fs r (i - 1) × (h ≤ r)
  unfolding of_group
  hyper-more = common-more fs (λ f. eqb f.group j) periods

  pub hyper-le : (i h : ℕ) → Down (hyper_of j) fs h i → h ≤ hyper_of j fs
  unfolding of_group
  hyper-le = common-le fs (λ f. eqb f.group j) periods
