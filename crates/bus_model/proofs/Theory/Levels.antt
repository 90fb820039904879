-- The levels between the approximate bound and the precise one, which are its ends: no level's bound exceeds the one before, and each
-- is sound.
use Prim.Native.Nat.{ℕ, suc, ◌≤◌, ◌<◌}
use Rattle.std.specs.Prelude.{◌≡◌, true, false, ◌≢◌}
use Rattle.std.proofs.Math.Path.{sym, ap}
use Rattle.std.proofs.Common.{◌∙◌, le→leb, eqb→eq, take_all}
use mathlib.Core.List.Memᴰ
use mathlib.Core.List.Memᴰ.{head as here}
use mathlib.Core.List.{List, [], ◌∷◌, Memᴰ as Mem}
use native.Mathlib.Omega.{arith}
use borrow.Author.Tests.{ltb-true, ltb-false}
use Rattle.std.proofs.Math.Dec.{leb, leb→le, eqb_refl}
use Rattle.std.proofs.Math.ListN.{length}
use Rattle.arith.specs.Lists.{product, keep, range}
use Rattle.arith.specs.Laws.Tests.{same_test}
use Rattle.arith.specs.Laws.Members.{apart-range, mem-keep, of-keep, take_more, named-mem, of-named, of_range, mem-range}
use Rattle.arith.specs.Laws.Sums.{le-greatest, greatest-le, product-take, product-first}
use Rattle.bus_model.specs.Frame.{row}
use Rattle.bus_model.specs.Valid.{ValidFrame, Valid, ValidFaults}
use Rattle.bus_model.specs.Bus.{MeetsClaim}
use Rattle.bus_model.specs.Bounds.{groups, window_limit, scenario_count, alignments, or_empty, own_group, every_group, approximate_bound, precise_bound}
use Rattle.bus_model.specs.Levels.{fixing_order, fixed_at, fixes, level_bound, level_count}
use Rattle.bus_model.specs.Judgement.{scenario_limit, too_many_scenarios, deepest_level}
use Rattle.bus_model.proofs.Theory.Frames.{group-listed}
use Rattle.bus_model.proofs.Theory.Order.{order-all, order-length}
use Rattle.bus_model.proofs.Theory.Scenarios.{◌⊆◌, Windowed, bound-same, bound-le-limit, windows-refine, bound-refine}
use Rattle.bus_model.proofs.Theory.Soundness.{sound}
use Rattle.bus_model.specs.declared.Frame.{Frame}
use Rattle.bus_model.specs.declared.Faults.{Faults}

-- the last level, which fixes every group
abbrev pub last_level : ℕ
last_level = 15

module _ {k : Frame} (valid : ValidFrame k) where
  -- ---- the groups that a level fixes

  -- Every level fixes k's own,
  pub own-fixes : (m : ℕ) → own_group k ⊆ fixes k m
  unfolding fixed_at fixing_order
  own-fixes m j t = named-mem (here (eqb→eq j k.group t))

  -- the first no other,
  pub fixes-first : (j : ℕ) → fixes k 0 j ≡ own_group k j
  unfolding fixed_at fixing_order
  fixes-first j =
      same_test _ _
      (λ t. let e : j ≡ k.group = Memᴰ.eq_of_singleton (of-named (k.group ∷ []) t) in rw e (eqb_refl k.group))
      (λ t. own-fixes 0 j t)

  -- the last every one.
  pub fixes-last : (j : ℕ) → Mem j (range 1 groups) → fixes k last_level j ≡ every_group j
  unfolding fixed_at
  fixes-last j m = same_test _ _ (λ t. tt) (λ t. named-mem (rw (take_all groups (fixing_order k) (order-length valid)) (order-all valid m)))

  -- A deeper level fixes them too.
  pub fixes-deeper : {m n : ℕ} → m ≤ n → fixes k m ⊆ fixes k n
  unfolding fixed_at
  fixes-deeper {m} {n} le j t = named-mem (take_more {n = suc m} {n' = suc n} (omega arith) (fixing_order k) (of-named (fixed_at k m) t))

-- ---- the bounds

module _ (fs : List Frame) {k : Frame} (valid : ValidFrame k) where
  -- The first level's is the approximate bound,
  pub level-first : (faults : Faults) → level_bound faults fs k 0 ≡ approximate_bound faults fs k
  unfolding level_bound
  level-first faults = bound-same faults fs k (fixes k 0) (own_group k) (λ j m. fixes-first valid j)

  -- the last one's is the precise bound.
  pub level-last : (faults : Faults) → level_bound faults fs k last_level ≡ precise_bound faults fs k
  unfolding level_bound
  level-last faults = bound-same faults fs k (fixes k last_level) every_group (fixes-last valid)

module _ {fs : List Frame} (valid : Valid fs) {k : ℕ} (inside : k < length fs) where
  abbrev f : Frame
  f = row fs k

  self : ValidFrame f
  self = valid.frame k inside

  -- "No level's bound exceeds the one above it", where the approximate bound has windows.
  pub level-refine : (faults : Faults) → Windowed faults fs f (own_group f) → {m n : ℕ} → m ≤ n → level_bound faults fs f n ≤ level_bound faults fs f m
  unfolding level_bound
  level-refine faults windows {m} {n} le =
      bound-refine valid inside faults (fixes f m) (fixes f n) (fixes-deeper self le)
      (windows-refine valid inside faults (own_group f) (fixes f m) (own-fixes self m) windows)
      (own-fixes self m f.group (eqb_refl f.group))

  -- Each is sound.
  pub sound-level : (faults : Faults) → ValidFaults faults → Windowed faults fs f (own_group f) → (m claim : ℕ) → level_bound faults fs f m ≤ claim → MeetsClaim faults fs k claim
  unfolding level_bound
  sound-level faults fine windows m = sound valid inside faults fine (fixes f m) (own-fixes self m) windows

  -- None exceeds the longest window.
  pub level-le-limit : (faults : Faults) (m : ℕ) → level_bound faults fs f m ≤ window_limit
  unfolding level_bound
  level-le-limit faults m = bound-le-limit valid inside faults (fixes f m) (own-fixes self m f.group (eqb_refl f.group))

-- ---- the deepest level that is looked at

-- Every group has an alignment, be it the empty one.
counted : (als : List ℕ) → 1 ≤ length (or_empty als)
unfolding or_empty
counted [] = omega arith
counted (a ∷ als) = omega arith

module _ (fs : List Frame) (k : Frame) where
  -- A deeper level has no smaller product.
  pub count-deeper : {m n : ℕ} → m ≤ n → level_count fs k m ≤ level_count fs k n
  unfolding level_count fixed_at
  count-deeper {m} {n} le = product-take (λ j. length (or_empty (alignments fs k j))) (λ j. counted (alignments fs k j)) {n = suc m} {n' = suc n} (omega arith) (fixing_order k)

  -- It is a level.
  pub deepest-le : deepest_level fs k ≤ last_level
  unfolding deepest_level
  deepest-le = greatest-le _ (λ m l. let (low, high) = of_range 0 groups (of-keep _ (range 0 groups) l).0 in omega arith)

  -- It is the one whose product is within the limit, while the next one's is not;
  pub deepest-is : {m : ℕ} → m ≤ last_level → level_count fs k m ≤ scenario_limit → (m < last_level → scenario_limit < level_count fs k (suc m)) → deepest_level fs k ≡ m
  unfolding deepest_level
  deepest-is {m} level fits over =
      let most = greatest-le {f = λ n. n} {n = m} (keep (λ n. leb (level_count fs k n) scenario_limit) (range 0 groups)) (λ n l.
      let (r, t) = of-keep (λ n. leb (level_count fs k n) scenario_limit) (range 0 groups) l in
      let (low, high) = of_range 0 groups r in
      let deeper : ¬ (m < n) = λ less. omega (arith, over (omega arith), count-deeper {m = suc m} {n = n} less, leb→le _ scenario_limit t) in
      omega arith) in
      let least = le-greatest (λ n. n) (mem-keep (λ n. leb (level_count fs k n) scenario_limit) (mem-range 0 groups m (omega arith) (omega arith)) (le→leb _ scenario_limit fits)) in
      omega arith

  -- where that of none is, it is the first.
  pub deepest-none : scenario_limit < level_count fs k 0 → deepest_level fs k ≡ 0
  unfolding deepest_level
  deepest-none over =
      let most = greatest-le {f = λ n. n} {n = 0} (keep (λ n. leb (level_count fs k n) scenario_limit) (range 0 groups)) (λ n l.
      let (r, t) = of-keep (λ n. leb (level_count fs k n) scenario_limit) (range 0 groups) l in
      omega (arith, count-deeper {m = 0} {n = n} (omega arith), leb→le _ scenario_limit t)) in
      omega arith

module _ (fs : List Frame) {k : Frame} (valid : ValidFrame k) where
  -- The last level's product is the scenario count.
  pub count-last : level_count fs k last_level ≡ scenario_count fs k
  unfolding level_count fixed_at fixing_order scenario_count product
  count-last =
      ap (product (λ j. length (or_empty (alignments fs k j)))) (take_all groups (fixing_order k) (order-length valid))
      ∙ sym (product-first (λ j. length (or_empty (alignments fs k j))) (range 1 groups) (apart-range 1 groups) (group-listed valid))

  -- So it is the deepest just where there are not too many scenarios.
  pub deepest-last : too_many_scenarios fs k ≡ false → deepest_level fs k ≡ last_level
  unfolding too_many_scenarios
  deepest-last few = deepest-is fs k {m = last_level} (omega arith) (omega (arith, count-last, ltb-false scenario_limit (scenario_count fs k) few)) (λ less. absurd (omega arith))

  pub deepest-before : too_many_scenarios fs k ≡ true → deepest_level fs k < last_level
  unfolding too_many_scenarios deepest_level
  deepest-before many =
      let most = greatest-le {f = λ n. n} {n = 14} (keep (λ n. leb (level_count fs k n) scenario_limit) (range 0 groups)) (λ n l.
      let (r, t) = of-keep (λ n. leb (level_count fs k n) scenario_limit) (range 0 groups) l in
      let (low, high) = of_range 0 groups r in
      let earlier : n ≢ last_level = λ e. omega (arith, ap (level_count fs k) e, count-last, ltb-true scenario_limit (scenario_count fs k) many, leb→le _ scenario_limit t) in
      omega arith) in
      omega arith
