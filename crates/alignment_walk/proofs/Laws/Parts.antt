-- The frames in some rows: their next releases, and the instants that these give.
use Rattle.std.specs.Prelude.{ℕ, ◌+◌, ◌-◌, ◌*◌, ◌/◌, ◌%◌, ◌≤◌, ◌<◌, min, max, ◌≡◌, List, [], ◌∷◌, Bool, T, length, get_or, Option, Some, None}
use Rattle.std.proofs.Math.Path.{refl, sym, ap}
use Rattle.std.proofs.Common.{◌∙◌, arith, mul-le-mul_right, mod-eq_of_lt}
use Rattle.std.proofs.Math.Decide.{dec_le}
use Rattle.std.proofs.Math.Nat.{mod-add-div', add-mod_right, add-mul-mod_self_right, max-zero, zero-max}
use Rattle.arith.specs.Lists.{greatest}
use Rattle.arith.specs.Least.{least}
use Rattle.arith.specs.Releases.{releases_before}
use Rattle.arith.specs.Laws.Members.{exists-mem, of-exists}
use Rattle.arith.specs.Laws.Sums.{le-greatest, greatest-exceeds}
use Rattle.arith.specs.Laws.Walks.{Through, through-start, through-more, through-end, greatest-more}
use Rattle.arith.specs.Laws.Releases.{count-le, next-after}
use Rattle.arith.specs.Laws.Least.{least-here, least_skip, least-none, least-within}
use Rattle.bus_model.specs.declared.Frame.{Frame}
use Rattle.bus_model.specs.Frame.{row}
use Rattle.bus_model.specs.Bounds.{phase, is_released_at, distance, or_empty}
use Rattle.bus_model.proofs.Theory.Frames.{phase-fits}
use Rattle.bus_model.proofs.Theory.Alignment.{released-at, released-turn, distance-lt, distance-reaches}
use Rattle.workload.specs.Prepared.{Fine, FinePart, frames_in, table_of, is_instant, or_end}
use Rattle.workload.proofs.Laws.Fine.{of-fine}
use Rattle.alignment_walk.specs.Steps.{next_release, wait_from}

-- ---- the next release of a frame

-- It is a release.
pub next-released : {g : Frame} → Fine g → (a : ℕ) → T (is_released_at (next_release a g) g)
next-released {g} fine a = released-at g (next_release a g) (add-mul-mod_self_right (phase g) _ g.period ∙ mod-eq_of_lt (phase-fits (of-fine fine)))

-- No release at a or later comes before it.
next-first : {g : Frame} → Fine g → (a m : ℕ) → a ≤ m → T (is_released_at m g) → next_release a g ≤ m
next-first {g} fine a m low t =
    let (n, is) = released-turn g m t in
    omega (arith, mul-le-mul_right g.period (count-le (phase g) fine.period-low a n (omega arith)))

module _ {g : Frame} (fine : Fine g) where
  -- A release at a or later that comes within a period is the first.
  next-within : (a x : ℕ) → a ≤ x → x < a + g.period → x % g.period ≡ phase g → x ≡ next_release a g
  next-within a x late soon rest =
      let p = g.period in
      let c = releases_before (phase g) p a in
      let is : x ≡ phase g + x / p * p = omega (arith, mod-add-div' x p) in
      let few : c ≤ x / p = count-le (phase g) fine.period-low a (x / p) (omega arith) in
      let many : ¬ (c < x / p) = λ less. omega (arith, next-after (phase g) fine.period-low a, mul-le-mul_right p less) in
      let same : x / p ≡ c = omega arith in
      rw same at is

  -- The first is not before a,
  pub next-late : (a : ℕ) → a ≤ next_release a g
  next-late a = next-after (phase g) fine.period-low a

  -- and at the distance from it.
  pub next-distance : (a : ℕ) → next_release a g ≡ a + distance g a
  next-distance a = sym (next-within a (a + distance g a) (omega arith) (omega (arith, distance-lt (of-fine fine) a)) (distance-reaches (of-fine fine) a))

  next-rest : (a : ℕ) → next_release a g % g.period ≡ phase g
  next-rest a = ap (λ (x : ℕ). x % g.period) (next-distance a) ∙ distance-reaches (of-fine fine) a

  -- It is the first after any tick up to it.
  pub next-stays : (a b : ℕ) → a ≤ b → b ≤ next_release a g → next_release a g ≡ next_release b g
  next-stays a b late inside = next-within b (next_release a g) inside (omega (arith, next-distance a, distance-lt (of-fine fine) a)) (next-rest a)

  -- After a release at a the next one is a period later.
  pub next-period : (a : ℕ) → next_release a g ≡ a → a + g.period ≡ next_release (a + 1) g
  next-period a here =
      let rest = rw here at (next-rest a) in
      next-within (a + 1) (a + g.period) (omega (arith, fine.period-low)) (omega arith) (add-mod_right a g.period ∙ rest)

  -- The very first is at the phase.
  pub next-phase : phase g ≡ next_release 0 g
  next-phase = next-within 0 (phase g) (omega arith) (omega (arith, phase-fits (of-fine fine))) (mod-eq_of_lt (phase-fits (of-fine fine)))

  -- It is waited for from a tick before it.
  pub wait-first : (a : ℕ) → a ≤ phase g → phase g - a ≡ wait_from a a g
  wait-first a inside = ap (λ (x : ℕ). x - a) (next-phase ∙ next-stays 0 a (omega arith) (omega (arith, next-phase)))

-- how long before e that is, for the frame that is released first
abbrev lead : ℕ → ℕ → List Frame → ℕ
lead a e = greatest (λ g. e - next_release a g)

-- a loop through some rows has the first next release of the frames before place i, cut at e
pub record FirstTo (a e : ℕ) (fs : List Frame) (part : List ℕ) (best i : ℕ) : Type 0 where
  pub through : Through (λ ms. lead a e (frames_in fs ms)) (λ b. max (e - b)) part (lead a e (frames_in fs part)) best i

module _ {a e : ℕ} {fs : List Frame} {part : List ℕ} {best : ℕ} where
  pub first-none : e ≤ best → FirstTo a e fs part best 0
  first-none over = let none : e - best ≡ 0 = omega arith in record { through = through-start _ _ _ _ (rw none (zero-max _)) }

  pub first_next : {i x next : ℕ} → FirstTo a e fs part best i → i < length part → x ≡ next_release a (row fs (get_or part i 0)) → next ≡ min best x → FirstTo a e fs part next (i + 1)
  first_next s less is least = record { through = through-more _ _ _ _ 0 s.through less (λ ms. greatest-more (λ g. e - next_release a g) (e - best) _ (omega arith) (frames_in fs ms)) }

module _ {rows p part : List ℕ} (fine : FinePart rows p part) {a e best i : ℕ} (first : FirstTo a e (table_of rows p) part best i) (over : length part ≤ i) where
  abbrev fs : List Frame
  fs = table_of rows p

  is : e - best ≡ lead a e (frames_in fs part)
  unfolding greatest
  is = sym (max-zero _) ∙ through-end _ _ _ _ first.through over

  -- No instant at a or later comes before that release.
  none_before : {m : ℕ} → a ≤ m → m < best → m < e → ¬ T (is_instant (frames_in fs part) m)
  none_before {m} low less inside t =
      let (g, l, u) = of-exists (is_released_at m) (frames_in fs part) t in
      omega (arith, is, next-first (fine.fine g l) a m low u, le-greatest (λ (h : Frame). e - next_release a h) l)

  -- The search for an instant finds it, where it is below e.
  pub next-is : best < e → Some best ≡ least (is_instant (frames_in fs part)) (e - a) a
  next-is inside =
      let p = is_instant (frames_in fs part) in
      let (g, l, less) = greatest-exceeds (λ (h : Frame). e - next_release a h) (e - best - 1) (frames_in fs part) (omega (arith, is)) in
      let same : next_release a g ≡ best = omega (arith, is, le-greatest (λ (h : Frame). e - next_release a h) l) in
      let late : a ≤ best = omega (arith, next-after (phase g) (fine.fine g l).period-low a) in
      let passes : T (p best) = rw same at (exists-mem (is_released_at (next_release a g)) l (next-released (fine.fine g l) a)) in
      sym (least_skip p e a best late (omega arith) (λ m low less. none_before low less (omega arith)) ∙ least-here p e best inside passes)

  -- Elsewhere it finds none.
  pub next-none : e ≤ best → None ≡ least (is_instant (frames_in fs part)) (e - a) a
  next-none high = sym (least-none (is_instant (frames_in fs part)) (e - a) a (λ m low less. none_before low (omega arith) (omega arith)))

  -- So that release, cut at e, is what the search ends with.
  pub next-or-end : best ≤ e → best ≡ or_end e (least (is_instant (frames_in fs part)) (e - a) a)
  unfolding or_end
  next-or-end low =
      elim (dec_le e best) [
        | yes high ↦ rw (← next-none high) (omega arith)
        | no under ↦ rw (← next-is (omega arith))
      ]

-- ---- a search below e that ended at m

module _ (p : ℕ → Bool) (e n : ℕ) {m : ℕ} where
  end-at : (found : Option ℕ) → m ≡ or_end e found → m < e → found ≡ Some m
  unfolding or_end
  end-at (Some l) is inside = ap Some (sym is)
  end-at None is inside = absurd (omega arith)

  -- Where that is below e, it found m.
  pub ended_at : m ≡ or_end e (least p (e - n) n) → m < e → least p (e - n) n ≡ Some m
  ended_at is inside = end-at (least p (e - n) n) is inside

  end_none : (found : Option ℕ) → least p (e - n) n ≡ found → m ≡ or_end e found → e ≤ m → found ≡ None
  unfolding or_end
  end_none (Some l) at is over = let (low, high, t) = least-within p e at in absurd (omega arith)
  end_none None at is over = refl

  -- Elsewhere it found none.
  pub ended-none : m ≡ or_end e (least p (e - n) n) → e ≤ m → least p (e - n) n ≡ None
  ended-none is over = end_none (least p (e - n) n) refl is over

-- A group without alignments counts 1.
pub length-or-empty : (als : List ℕ) → length (or_empty als) ≡ max (length als) 1
unfolding or_empty
length-or-empty [] = refl
length-or-empty (a ∷ als) = omega arith
