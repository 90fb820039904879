-- A group's hyperperiod and its releases, as the loops over the rows find them.
use Rattle.std.specs.Prelude.{Ok}
use Prim.Native.Nat.{ℕ, min, ◌+◌, ◌-◌, ◌/◌, ◌≤◌, ◌<◌}
use mathlib.Core.Path.{◌≡◌, refl, sym, ap, subst, ◌∙◌}
use mathlib.Core.Bool.{Bool, true, false, cond}
use mathlib.Core.List.{List, [], ◌∷◌}
use native.Mathlib.Nat.{div-le_self}
use native.Mathlib.Omega.{arith}
use lib.Dec.{eqb}
use lib.ListN.{length}
use borrow.Author.Tests.{lt-ltb, le-ltb}
use Rattle.arith.specs.Lists.{sum, keep}
use Rattle.arith.specs.Multiples.{lcm, lcm_of}
use Rattle.arith.specs.Laws.Sums.{sum-keep}
use Rattle.arith.specs.Laws.Walks.{Down, down-start, down-more, down-end}
use Rattle.bus_model.specs.declared.Frame.{Frame}
use Rattle.bus_model.specs.Frame.{no_frame, row}
use Rattle.bus_model.specs.Pattern.{of_group, hyperperiod, pattern_releases}
use Rattle.bus_model.specs.Theory.Hyperperiod.{hyper_of}
use Rattle.bus_model.proofs.Theory.Hyperperiod.{join_of, hyper-more, hyper-le}
use Rattle.table_checks.specs.declared.Cause.TheVariants.{Hyperperiod, Releases}
use Rattle.table_checks.specs.Columns.{field, columns, group_column, period_column}
use Rattle.table_checks.specs.Frames.{frame_at, unmeasured}
use Rattle.table_checks.specs.Refusal.{failed}
use Rattle.table_checks.specs.Checks.{group_check}
use Rattle.table_checks.specs.Steps.{Periods}
use Rattle.table_checks.proofs.Laws.Accepted.{length-frames, frame_row}

-- ---- the frames of a table, as a loop goes down through its rows

-- The loop has come down to row i: acc is the fold F of the frames from there on.
pub record Rows {B : Type 0} (F : List Frame → B) (t : List ℕ) (acc : B) (i : ℕ) : Type 0 where
  pub inside : i ≤ length t / columns
  pub down : Down F (unmeasured t) acc i

module _ {B : Type 0} (F : List Frame → B) (t : List ℕ) where
  rows_none : {z : B} → z ≡ F [] → Rows F t z (length t / columns)
  rows_none e = record { inside = omega arith; down = subst (Down F (unmeasured t) _) (length-frames [] t) (down-start F (unmeasured t) e) }

  -- It reads the row before.
  row_read : {acc : B} {i : ℕ} → Rows F t acc i → 0 < i → frame_at [] t (i - 1) ≡ row (unmeasured t) (i - 1)
  row_read {i = i} s pos = sym (frame_row [] t (i - 1) (omega (arith, s.inside)))

  pub rows_all : {acc : B} {i : ℕ} → Rows F t acc i → i ≤ 0 → acc ≡ F (unmeasured t)
  rows_all s over = down-end F (unmeasured t) s.down over

-- ---- the hyperperiod

module _ (t : List ℕ) (j : ℕ) where
  -- The loop starts at 1.
  pub hyper-start : Rows (hyper_of j) t 1 (length t / columns)
  unfolding hyperperiod lcm_of of_group keep
  hyper-start = rows_none (hyper_of j) t refl

  module _ (periods : Periods t) where
    frame-periods : (i : ℕ) → i < length (unmeasured t) → 1 ≤ (row (unmeasured t) i).period
    unfolding Periods frame_at
    frame-periods i l = let h : i < length t / columns = omega (arith, length-frames [] t) in rw (frame_row [] t i h) (periods i h).0

    -- It takes one row more, whose numbers it reads.
    pub hyper-row : {i h r : ℕ} → Rows (hyper_of j) t h i → 0 < i
        → r ≡ cond (eqb (field t (i - 1) group_column) j) (lcm (field t (i - 1) period_column) h) h → Rows (hyper_of j) t r (i - 1) × (h ≤ r)
    unfolding frame_at
    hyper-row {i} {h} {r} s pos e =
        let is : r ≡ join_of j (frame_at [] t (i - 1)) h = e in
        let m = hyper-more (unmeasured t) j frame-periods s.down pos (row_read _ t s pos) is in
        (record { inside = omega (arith, s.inside); down = m.0 }, m.1)

    -- That of the rows read is at most that of all.
    pub hyper-most : {i h : ℕ} → Rows (hyper_of j) t h i → h ≤ hyper_of j (unmeasured t)
    hyper-most s = hyper-le (unmeasured t) j frame-periods _ _ s.down

-- ---- the releases in a hyperperiod of h ticks

abbrev pub releases_of : ℕ → ℕ → List Frame → ℕ
releases_of h j gs = sum (λ g. h / g.period) (of_group gs j)

-- of a frame
abbrev share_of : ℕ → ℕ → Frame → ℕ
share_of h j g = cond (eqb g.group j) (h / g.period) 0

releases-cons : (h j : ℕ) (g : Frame) (gs : List Frame) → releases_of h j (g ∷ gs) ≡ share_of h j g + releases_of h j gs
unfolding of_group sum
releases-cons h j g gs = sum-keep _ _ (g ∷ gs) ∙ ap (λ (s : ℕ). share_of h j g + s) (sym (sum-keep _ _ gs))

share-le : (h j : ℕ) (g : Frame) → share_of h j g ≤ h
share-le h j g = go (eqb g.group j)
  where
    go : (b : Bool) → cond b (h / g.period) 0 ≤ h
    go true = div-le_self h g.period
    go false = omega arith

module _ (t : List ℕ) (h j : ℕ) where
  -- The loop starts at 0.
  pub releases-none : Rows (releases_of h j) t 0 (length t / columns)
  unfolding sum of_group keep
  releases-none = rows_none (releases_of h j) t refl

  -- It takes one row more, whose releases are at most h.
  pub releases-more : {i s r : ℕ} → Rows (releases_of h j) t s i → 0 < i
      → r ≡ cond (eqb (field t (i - 1) group_column) j) (h / field t (i - 1) period_column) 0 → Rows (releases_of h j) t (r + s) (i - 1) × (r ≤ h)
  unfolding frame_at
  releases-more {i} {s} {r} f pos e =
      let is : r ≡ share_of h j (frame_at [] t (i - 1)) = e in (
        record {
          inside = omega (arith, f.inside);
          down = down-more (releases_of h j) (unmeasured t) (λ g acc. share_of h j g + acc) (releases-cons h j) no_frame f.down pos (row_read _ t f pos) (ap (λ (x : ℕ). x + s) is);
        },
        rw is (share-le h j (frame_at [] t (i - 1))),
      )

-- ---- the check of a group, by its bounded hyperperiod

module _ (fs : List Frame) (j h : ℕ) (e : h ≡ min (hyper_of j fs) 1000001) where
  -- One past its limit is refused.
  pub group-long : 1000000 < h → failed Hyperperiod j ≡ group_check fs j
  unfolding group_check
  group-long l = let k : 1000000 < hyper_of j fs = omega arith in simp (lt-ltb _ _ k)

  -- One within its limit is the hyperperiod, and the releases decide.
  module _ (l : h ≤ 1000000) (q : ℕ) (p : q ≡ releases_of h j fs) where
    whole : hyper_of j fs ≡ h
    whole = omega arith

    counted : pattern_releases (of_group fs j) ≡ q
    unfolding pattern_releases
    counted = rw whole (sym p)

    short : hyper_of j fs ≤ 1000000
    short = omega arith

    pub group-many : 256 < q → failed Releases j ≡ group_check fs j
    unfolding group_check
    group-many k = simp (le-ltb _ _ short, counted, lt-ltb _ _ k)

    pub group-passes : q ≤ 256 → Ok tt ≡ group_check fs j
    unfolding group_check
    group-passes k = simp (le-ltb _ _ short, counted, le-ltb _ _ k)
