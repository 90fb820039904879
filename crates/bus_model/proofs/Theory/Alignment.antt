-- Every tick stands at an alignment of each group: from there on the group's frames are released at their distances or later.
-- This is where releases by the bus rule meet the distances of the bounds.
use Rattle.std.specs.Prelude.{ℕ, suc, ◌+◌, ◌-◌, ◌*◌, ◌/◌, ◌%◌, ◌≤◌, ◌<◌, ◌≡◌, refl, Bool, true, false, ◌&&◌, T, leb, eqb}
use Rattle.std.proofs.Common.{sym, ◌∙◌, inl, inr, arith, mod-lt, mod-eq_of_lt, le→leb, leb→le, eqb→eq}
use Rattle.std.proofs.Math.Path.{ap}
use mathlib.Core.List.Memᴰ.{head as here}
use mathlib.Core.List.{List, [], ◌∷◌, Memᴰ as Mem}
use Rattle.std.proofs.Math.Nat.{le_of_dvd, mod-le, mod-mod_of_dvd, add-mod-mod, add-mul-mod_self_right, mod-add-div', mul-mod_left}
use Rattle.std.proofs.Math.Dec.{eqb_refl}
use Rattle.arith.specs.Lists.{range}
use Rattle.arith.specs.Releases.{releases_before}
use Rattle.arith.specs.Laws.Members.{Lowest, lowest, mem-keep, of-keep, exists-mem, of-exists, mem-range, of_range}
use Rattle.arith.specs.Laws.Releases.{count-le, next-after}
use Rattle.bus_model.specs.Valid.{ValidFrame, Valid}
use Rattle.bus_model.specs.Pattern.{of_group, hyperperiod}
use Rattle.bus_model.specs.Release.{release}
use Rattle.bus_model.specs.Bounds.{ahead, phase, is_released_at, alignments, or_empty, distance}
use Rattle.bus_model.proofs.Theory.Arrivals.{released_by, arrived}
use Rattle.bus_model.proofs.Theory.Frames.{phase-rest, phase-fits, valid-frame, of-ahead, of-group, group-divides, group-pos}
use Rattle.bus_model.specs.declared.Frame.{Frame}

-- ---- which numbers are alignments

-- A number less its remainder is a multiple.
rest-off : (a p : ℕ) → (a - a % p) % p ≡ 0
rest-off a p = let whole : a - a % p ≡ a / p * p = omega (arith, mod-add-div' a p) in rw whole (mul-mod_left (a / p) p)

-- two tests that pass pass together
both : (b c : Bool) → T b → T c → T (b && c)
both true true s t = tt
both true false s t = t
both false c s t = s

-- A frame is released at each number that leaves its phase as the remainder.
pub released-at : (g : Frame) (a : ℕ) → a % g.period ≡ phase g → T (is_released_at a g)
unfolding is_released_at
released-at g a rest =
    let p = g.period in
    rw (← rest) (both (leb (a % p) a) (eqb ((a - a % p) % p) 0) (le→leb _ _ (mod-le a p)) (rw (rest-off a p) (eqb_refl 0)))

-- So the number is an alignment, if it is below the hyperperiod.
pub mem-alignments : (fs : List Frame) (k : Frame) (j : ℕ) {g : Frame} (a : ℕ) → Mem g (of_group (ahead fs k) j) → a < hyperperiod (of_group fs j)
    → a % g.period ≡ phase g → Mem a (alignments fs k j)
unfolding alignments
mem-alignments fs k j {g} a m below rest =
    mem-keep _ (mem-range 0 (hyperperiod (of_group fs j)) a (omega arith) (omega arith)) (exists-mem (is_released_at a) m (released-at g a rest))

-- A frame's phase is one.
pub phase-aligned : {fs : List Frame} → Valid fs → (k : Frame) (j : ℕ) {g : Frame} → Mem g (of_group (ahead fs k) j) → Mem (phase g) (alignments fs k j)
phase-aligned {fs} valid k j {g} m =
    let own = valid-frame valid (of-ahead fs k (of-group (ahead fs k) j m).0) in
    let fits = phase-fits own in
    let short : g.period ≤ hyperperiod (of_group fs j) = le_of_dvd (group-pos valid j) (group-divides fs k j m) in
    mem-alignments fs k j (phase g) m (omega arith) (mod-eq_of_lt fits)

-- Every instant o + m×p below the hyperperiod is an alignment.
pub instant-aligned : {fs : List Frame} → Valid fs → (k : Frame) (j : ℕ) {g : Frame} (m : ℕ) → Mem g (of_group (ahead fs k) j)
    → phase g + m * g.period < hyperperiod (of_group fs j) → Mem (phase g + m * g.period) (alignments fs k j)
instant-aligned {fs} valid k j {g} m l below =
    let own = valid-frame valid (of-ahead fs k (of-group (ahead fs k) j l).0) in
    mem-alignments fs k j (phase g + m * g.period) l below (add-mul-mod_self_right (phase g) m g.period ∙ mod-eq_of_lt (phase-fits own))

-- two tests that pass together pass
halves : (b c : Bool) → T (b && c) → T b × T c
halves true true t = (tt, tt)
halves true false t = absurd t
halves false c t = absurd t

-- A frame is released at instants o + m×p only.
pub released-turn : (g : Frame) (a : ℕ) → T (is_released_at a g) → (m : ℕ) × (a ≡ phase g + m * g.period)
unfolding is_released_at
released-turn g a t =
    let (late, whole) = halves (leb (phase g) a) (eqb ((a - phase g) % g.period) 0) t in
    let after = leb→le (phase g) a late in
    let rest = eqb→eq ((a - phase g) % g.period) 0 whole in
    ((a - phase g) / g.period, omega (arith, mod-add-div' (a - phase g) g.period))

-- An instant of one of the group's frames ahead, below its hyperperiod.
pub record Instant (fs : List Frame) (k : Frame) (j a : ℕ) : Type 0 where
  pub below : a < hyperperiod (of_group fs j)
  pub frame : Frame
  pub listed : Mem frame (of_group (ahead fs k) j)
  pub turn : ℕ
  pub is : a ≡ phase frame + turn * frame.period

-- Every alignment is one.
pub aligned-instant : (fs : List Frame) (k : Frame) (j : ℕ) {a : ℕ} → Mem a (alignments fs k j) → Instant fs k j a
unfolding alignments
aligned-instant fs k j {a} m =
    let (r, t) = of-keep _ (range 0 (hyperperiod (of_group fs j))) m in
    let (low, high) = of_range 0 (hyperperiod (of_group fs j)) r in
    let (g, l, u) = of-exists (is_released_at a) (of_group (ahead fs k) j) t in
    let (n, is) = released-turn g a u in
    record { below = omega arith; frame = g; listed = l; turn = n; is = is }

-- There is an alignment for the bounds to look at.
some-alignment : (als : List ℕ) → (a : ℕ) × Mem a (or_empty als)
unfolding or_empty
some-alignment [] = (0, here refl)
some-alignment (a ∷ als) = (a, here refl)

-- The bounds look at every alignment.
pub or-empty : {a : ℕ} {als : List ℕ} → Mem a als → Mem a (or_empty als)
unfolding or_empty
or-empty {a = a} {als = []} m = elim m [ ]
or-empty {als = b ∷ bs} m = m

-- ---- distances

-- The distance is below the period.
pub distance-lt : {g : Frame} → ValidFrame g → (a : ℕ) → distance g a < g.period
unfolding distance
distance-lt valid a = mod-lt _ valid.period

-- So long after the alignment the frame is released.
pub distance-reaches : {g : Frame} → ValidFrame g → (a : ℕ) → (a + distance g a) % g.period ≡ phase g
unfolding distance
distance-reaches {g} valid a =
    let p = g.period in
    let whole : a + (phase g + (p - a % p)) ≡ phase g + suc (a / p) * p = omega (arith, mod-add-div' a p, mod-lt a valid.period) in
    add-mod-mod a (phase g + (p - a % p)) p ∙ ap (λ (x : ℕ). x % p) whole ∙ add-mul-mod_self_right (phase g) (suc (a / p)) p ∙ mod-eq_of_lt (phase-fits valid)

-- The distance of a frame from its own phase is 0.
pub phase-distance : {g : Frame} → ValidFrame g → distance g (phase g) ≡ 0
unfolding distance
phase-distance {g} valid =
    let p = g.period in
    let same = mod-eq_of_lt (phase-fits valid) in
    let whole : phase g + (p - phase g % p) ≡ 0 + 1 * p = omega (arith, phase-fits valid) in
    rw (whole, add-mul-mod_self_right) (mod-eq_of_lt valid.period)

-- A frame whose group starts at s is released at a tick not before v. Where v stands at alignment a, that is at least a's distance after v.
distance-fits : {g : Frame} → ValidFrame g → (s v a c : ℕ) → s ≤ v → v ≤ s + g.offset + c * g.period → (v - s) % g.period ≡ a % g.period
    → v + distance g a ≤ s + g.offset + c * g.period
unfolding distance
distance-fits {g} valid s v a c started before same = rw same_rest (omega (arith, mod-le y p))
  where
    p : ℕ
    p = g.period

    y : ℕ
    y = s + g.offset + c * p - v

    -- the frame's offset is that many periods beyond its phase
    late : ℕ
    late = g.offset / p

    offset-is : phase g + late * p ≡ g.offset
    offset-is = rw (phase-rest g) at (mod-add-div' g.offset p)

    shifted : phase g + (p - a % p) + (c + late) * p ≡ y + suc ((v - s) / p) * p
    shifted = omega (arith, offset-is, mod-add-div' (v - s) p, mod-lt a valid.period)

    same_rest : (phase g + (p - a % p)) % p ≡ y % p
    same_rest = sym (add-mul-mod_self_right (phase g + (p - a % p)) (c + late) p) ∙ ap (λ (z : ℕ). z % p) shifted ∙ add-mul-mod_self_right y (suc ((v - s) / p)) p

-- ---- the alignments of a tick

-- when the frame is released next, from tick t on
abbrev pub next : (ℕ → ℕ) → ℕ → Frame → ℕ
next starts t g = release starts g (released_by starts g t)

-- An alignment of group j at which tick t stands: each of its frames ahead is released next at its distance from t or later.
record Alignment (fs : List Frame) (k : Frame) (starts : ℕ → ℕ) (t j : ℕ) : Type 0 where
  value : ℕ
  listed : Mem value (or_empty (alignments fs k j))
  stands : (g : Frame) → Mem g (of_group (ahead fs k) j) → t + distance g value ≤ next starts t g

module _ (fs : List Frame) (valid : Valid fs) (k : Frame) (starts : ℕ → ℕ) (t j : ℕ) where
  -- Where the group has a frame ahead, it is that of the first of them to be released.
  of-lowest : Lowest (next starts t) (of_group (ahead fs k) j) → Alignment fs k starts t j
  unfolding release released_by
  of-lowest l = record { value = a; listed = or-empty (mem-alignments fs k j a l.listed below rest); stands = stands }
    where
      -- the frames of the group are valid, and start with it
      of-table : {g : Frame} → Mem g (of_group (ahead fs k) j) → ValidFrame g × (starts g.group ≡ starts j)
      of-table m = let (n, e) = of-group (ahead fs k) j m in (valid-frame valid (of-ahead fs k n), ap starts e)

      x : Frame
      x = l.element

      v : ℕ
      v = next starts t x

      a : ℕ
      a = (v - starts j) % hyperperiod (of_group fs j)

      below : a < hyperperiod (of_group fs j)
      below = mod-lt (v - starts j) (group-pos valid j)

      rest : a % x.period ≡ phase x
      rest =
          let started = (of-table l.listed).1 in
          let past : v - starts j ≡ x.offset + released_by starts x t * x.period = omega arith in
          rw (mod-mod_of_dvd x.period (v - starts j) (group-divides fs k j l.listed), past, add-mul-mod_self_right) (phase-rest x)

      stands : (g : Frame) → Mem g (of_group (ahead fs k) j) → t + distance g a ≤ next starts t g
      stands g m =
          let (own, same) = of-table m in
          let (of-x, started) = of-table l.listed in
          let first = l.least g m in
          let now = next-after (starts x.group + x.offset) of-x.period t in
          let aligned = sym (mod-mod_of_dvd g.period (v - starts j) (group-divides fs k j m)) in
          let fits = distance-fits own (starts j) v a (released_by starts g t) (omega arith) (omega arith) aligned in
          omega arith

  -- Where it has none, it is any that the bounds look at.
  of-empty : ((g : Frame) → Mem g (of_group (ahead fs k) j) → ⊥) → Alignment fs k starts t j
  of-empty empty = let (a, m) = some-alignment (alignments fs k j) in record { value = a; listed = m; stands = λ g n. absurd (empty g n) }

  -- There is one.
  alignment : Alignment fs k starts t j
  alignment = elim (lowest (next starts t) (of_group (ahead fs k) j)) [ inl empty ↦ of-empty empty | inr l ↦ of-lowest l ]

-- One alignment for each group, of those that the bounds look at.
abbrev pub Aligned : List Frame → Frame → (ℕ → ℕ) → Type 0
Aligned fs k α = (j : ℕ) → Mem (α j) (or_empty (alignments fs k j))

-- Tick t stands at these alignments.
abbrev pub Stands : List Frame → Frame → (ℕ → ℕ) → ℕ → (ℕ → ℕ) → Type 0
Stands fs k starts t α = (j : ℕ) (g : Frame) → Mem g (of_group (ahead fs k) j) → t + distance g (α j) ≤ next starts t g

-- Every tick stands at some.
pub aligned : (fs : List Frame) → Valid fs → (k : Frame) (starts : ℕ → ℕ) (t : ℕ) → (α : ℕ → ℕ) × Aligned fs k α × Stands fs k starts t α
aligned fs valid k starts t = let each = alignment fs valid k starts t in (λ j. (each j).value, λ j. (each j).listed, λ j. (each j).stands)

-- What arrives of a frame that is released next at its distance from t or later.
pub arrived-le : (starts : ℕ → ℕ) (t a : ℕ) {g : Frame} → ValidFrame g → t + distance g a ≤ next starts t g
    → (x : ℕ) → arrived starts g t x ≤ releases_before (distance g a) g.period x
unfolding arrived release released_by
arrived-le starts t a {g} valid stands x =
    let after = next-after (distance g a) valid.period x in
    let few = count-le (starts g.group + g.offset) valid.period (t + x) (released_by starts g t + releases_before (distance g a) g.period x) (omega arith) in
    omega arith
