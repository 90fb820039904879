-- The frames of a valid table: those of a group, those ahead, their phases, and the hyperperiod of a group.
-- `phase` and the hyperperiod are used through these laws alone.
use Rattle.std.specs.Prelude.{ℕ, ◌≤◌, ◌<◌, ◌%◌, ◌≡◌, refl, length}
use Rattle.std.specs.Int.{◌∣◌}
use mathlib.Core.List.{List, Memᴰ as Mem}
use Rattle.std.proofs.Common.{arith, le_refl, mod-lt, mod-eq_of_lt, le→leb, ltb→lt, eqb→eq}
use Rattle.std.proofs.Math.Dec.{eqb_refl}
use Rattle.arith.specs.Lists.{range}
use Rattle.arith.specs.Laws.Members.{mem-keep, of-keep, mem-get_d, mem-range, place_of}
use Rattle.arith.specs.Laws.Multiples.{divides-lcm_of, lcm_of-pos}
use Rattle.bus_model.specs.Frame.{no_frame, row}
use Rattle.bus_model.specs.Valid.{ValidFrame, Valid}
use Rattle.bus_model.specs.Pattern.{of_group, hyperperiod}
use Rattle.bus_model.specs.Bounds.{groups, ahead, better, phase}
use Rattle.bus_model.specs.declared.Frame.{Frame}

-- ---- one frame

-- The phase is the offset modulo the period.
pub phase-rest : (g : Frame) → g.offset % g.period ≡ phase g
unfolding phase
phase-rest g = refl

-- It is below the period.
pub phase-fits : {g : Frame} → ValidFrame g → phase g < g.period
unfolding phase
phase-fits {g} valid = mod-lt g.offset valid.period

-- It is the offset itself, where that is below the period.
pub phase-offset : (g : Frame) → g.offset < g.period → phase g ≡ g.offset
unfolding phase
phase-offset g early = mod-eq_of_lt early

-- A frame's group is one of the groups.
pub group-listed : {g : Frame} → ValidFrame g → Mem g.group (range 1 groups)
group-listed {g} valid = mem-range 1 groups g.group valid.group-low (omega (arith, valid.group-high))

-- ---- the frames of a table

-- A frame of a valid table is valid.
pub valid-frame : {fs : List Frame} → Valid fs → {g : Frame} → Mem g fs → ValidFrame g
valid-frame valid m = let (i, h, e) = place_of no_frame m in rw e at (valid.frame i h)

-- frames gs that are ahead of k
abbrev pub Part : List Frame → Frame → List Frame → Type 0
Part fs k gs = (g : Frame) → Mem g gs → Mem g (ahead fs k)

-- The better ones are.
pub better-ahead : (fs : List Frame) (k : Frame) → Part fs k (better fs k)
unfolding ahead better
better-ahead fs k g m = let (n, t) = of-keep _ fs m in mem-keep _ n (le→leb g.priority k.priority (omega (arith, ltb→lt g.priority k.priority t)))

-- A frame ahead is of the table.
pub of-ahead : (fs : List Frame) (k : Frame) {g : Frame} → Mem g (ahead fs k) → Mem g fs
unfolding ahead
of-ahead fs k m = (of-keep _ fs m).0

-- ---- the frames of a group

-- A frame of group j is one of the list, and of that group.
pub of-group : (gs : List Frame) (j : ℕ) {g : Frame} → Mem g (of_group gs j) → Mem g gs × (g.group ≡ j)
unfolding of_group
of-group gs j {g} m = let (n, t) = of-keep _ gs m in (n, eqb→eq g.group j t)

-- And a frame of the list is one of its group.
pub mem-group : {gs : List Frame} {g : Frame} → Mem g gs → {j : ℕ} → g.group ≡ j → Mem g (of_group gs j)
unfolding of_group
mem-group m {j} e = mem-keep _ m (rw e (eqb_refl j))

-- A part of the frames ahead is so at each group.
pub group-part : (fs : List Frame) (k : Frame) {gs : List Frame} → Part fs k gs → (j : ℕ) (g : Frame) → Mem g (of_group gs j) → Mem g (of_group (ahead fs k) j)
group-part fs k {gs} part j g m = let (n, e) = of-group gs j m in mem-group (part g n) e

-- A frame is among those ahead of it.
pub self-ahead : (fs : List Frame) (k : ℕ) → k < length fs → Mem (row fs k) (of_group (ahead fs (row fs k)) (row fs k).group)
unfolding ahead
self-ahead fs k inside =
    let f = row fs k in
    mem-group (mem-keep _ (mem-get_d fs k no_frame inside) (le→leb f.priority f.priority (le_refl f.priority))) refl

-- ---- the hyperperiod of a group

-- It is a multiple of the period of each of the group's frames.
pub group-divides : (fs : List Frame) (k : Frame) (j : ℕ) {g : Frame} → Mem g (of_group (ahead fs k) j) → g.period ∣ hyperperiod (of_group fs j)
unfolding hyperperiod
group-divides fs k j m = let (n, e) = of-group (ahead fs k) j m in divides-lcm_of (λ g. g.period) (of_group fs j) (mem-group (of-ahead fs k n) e)

-- It is not 0.
pub group-pos : {fs : List Frame} → Valid fs → (j : ℕ) → 1 ≤ hyperperiod (of_group fs j)
unfolding hyperperiod
group-pos {fs} valid j = lcm_of-pos (λ g. g.period) (of_group fs j) (λ g m. (valid-frame valid (of-group fs j m).0).period)
