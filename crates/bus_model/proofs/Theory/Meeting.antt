-- A tick at which every group stands exactly at its alignment in a scenario: each group has started as many ticks before.
-- From there on the frames ahead arrive just as the scenario has it, so the scenario's work does arrive.
use Prim.Native.Nat.{ℕ, zero, suc, ◌+◌, ◌-◌, ◌*◌, ◌/◌, ◌≤◌, ◌<◌}
use Rattle.std.specs.Prelude.{◌≡◌}
use Rattle.std.proofs.Math.Path.{refl, sym}
use Rattle.std.proofs.Common.{ap, ◌∙◌}
use mathlib.Core.List.{List, Memᴰ as Mem}
use native.Mathlib.Omega.{arith}
use Rattle.std.proofs.Math.Nat.{mod-eq_of_lt, mod-add-div', mul-le-mul_left, mul-le-mul_right}
use Rattle.arith.specs.Lists.{sum, range}
use Rattle.arith.specs.Releases.{releases_before}
use Rattle.arith.specs.Laws.Sums.{sum-le}
use Rattle.arith.specs.Laws.Releases.{counted, count-le}
use Rattle.bus_model.specs.Valid.{ValidFrame}
use Rattle.bus_model.specs.Release.{release}
use Rattle.bus_model.specs.Pattern.{of_group}
use Rattle.bus_model.specs.Bounds.{groups, alignments, distance, choice_of, demand, work_at, group_work, work}
use Rattle.bus_model.proofs.Theory.Arrivals.{released_by, arrived}
use Rattle.bus_model.proofs.Theory.Frames.{phase-rest, of-group}
use Rattle.bus_model.proofs.Theory.Alignment.{next, distance-reaches}
use Rattle.bus_model.proofs.Theory.Cover.{by-groups}
use Rattle.bus_model.specs.declared.Frame.{Frame}
use Rattle.bus_model.specs.declared.Choice.{Choice}
use Rattle.bus_model.specs.declared.Choice.TheVariants.{Fixed}

-- ---- one frame, whose group starts a ticks before t

module _ (starts : ℕ → ℕ) (t a : ℕ) {g : Frame} (valid : ValidFrame g) (early : g.offset < g.period) (before : starts g.group + a ≡ t) where
  -- It is released next at its distance from a, and not later.
  pub next_le : next starts t g ≤ t + distance g a
  unfolding released_by release
  next_le =
      let p = g.period in
      let turn = (a + distance g a) / p in
      let rest = distance-reaches valid a ∙ sym (phase-rest g) ∙ mod-eq_of_lt early in
      let at : g.offset + turn * p ≡ a + distance g a = rw rest at (mod-add-div' (a + distance g a) p) in
      let few = count-le (starts g.group + g.offset) valid.period t turn (omega arith) in
      omega (arith, mul-le-mul_right p few)

  -- So it arrives as often as its distance has it.
  pub arrived-ge : (x : ℕ) → releases_before (distance g a) g.period x ≤ arrived starts g t x
  unfolding arrived released_by release
  arrived-ge x = go (releases_before (distance g a) g.period x) refl
    where
      go : (c : ℕ) → c ≡ releases_before (distance g a) g.period x → c ≤ released_by starts g (t + x) - released_by starts g t
      go zero e = omega arith
      go (suc m) e =
          let last = (counted (distance g a) valid.period x m).0 (omega arith) in
          let more = (counted (starts g.group + g.offset) valid.period (t + x) (released_by starts g t + m)).1 (omega (arith, next_le)) in
          omega arith

-- ---- all frames

module _
    (fs : List Frame) (k : Frame) (starts : ℕ → ℕ) (t : ℕ) (cs : List Choice) (α : ℕ → ℕ)
    (fixed : (j : ℕ) → Mem j (range 1 groups) → choice_of cs j ≡ Fixed (α j)) (meets : (j : ℕ) → Mem j (range 1 groups) → starts j + α j ≡ t)
    (gs : List Frame) (valid : (g : Frame) → Mem g gs → ValidFrame g) (early : (g : Frame) → Mem g gs → g.offset < g.period)
  where
    -- What arrives at a group is at least the group's work.
    group-arrives : (x j : ℕ) → Mem j (range 1 groups) → group_work (of_group gs j) (alignments fs k j) (choice_of cs j) x ≤ sum (λ g. g.length * arrived starts g t x) (of_group gs j)
    unfolding group_work work_at demand
    group-arrives x j m = rw (fixed j m) (sum-le (of_group gs j) arrives)
      where
        arrives : (g : Frame) → Mem g (of_group gs j) → demand g (α j) x ≤ g.length * arrived starts g t x
        arrives g l =
            let (n, e) = of-group gs j l in
            mul-le-mul_left g.length (arrived-ge starts t (α j) (valid g n) (early g n) (ap (λ (i : ℕ). starts i + α j) e ∙ meets j m) x)

    -- So what arrives at all groups is at least the work.
    pub work-arrives : (x : ℕ) → work fs k gs cs x ≤ sum (λ g. g.length * arrived starts g t x) gs
    unfolding work
    work-arrives x = rw (by-groups (λ g. g.length * arrived starts g t x) gs valid) (sum-le (range 1 groups) (λ j m. group-arrives x j m))
