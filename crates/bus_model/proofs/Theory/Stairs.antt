-- The greatest work of a group as a function of time: it does not fall, so that between two lengths where it is the same it is so
-- throughout; and each turn adds the same to it. So its values below the turn say them all.
use Prim.Native.Nat.{ℕ, zero, suc, ◌+◌, ◌-◌, ◌*◌, ◌/◌, ◌≤◌, ◌<◌, ◌∣◌}
use Rattle.std.specs.Prelude.{◌≡◌, refl}
use Rattle.std.proofs.Common.{sym, ap, subst, ◌∙◌, arith, mul_assoc, mul-add, mul_left_comm, mul-zero}
use Rattle.std.proofs.Math.Path.{fun_ext}
use mathlib.Core.List.Memᴰ.{head as here}
use mathlib.Core.List.Memᴰ.{tail as there}
use mathlib.Core.List.{List, [], ◌∷◌, Memᴰ as Mem}
use Rattle.std.proofs.Math.Nat.{div-mul_cancel}
use Rattle.arith.specs.Lists.{sum, greatest}
use Rattle.arith.specs.Releases.{releases_before}
use Rattle.arith.specs.Laws.Releases.{count_small, count-turns}
use Rattle.arith.specs.Laws.Sums.{le-greatest, greatest-le}
use Rattle.bus_model.specs.Valid.{ValidFrame, Valid}
use Rattle.bus_model.specs.Pattern.{of_group}
use Rattle.bus_model.specs.Bounds.{ahead, alignments, phase, distance, demand, work_at, group_work}
use Rattle.bus_model.proofs.Theory.Pattern.{hyperperiod-multiple}
use Rattle.bus_model.proofs.Theory.Alignment.{phase-aligned, distance-lt}
use Rattle.bus_model.proofs.Theory.Work.{group-mono}
use Rattle.bus_model.specs.Theory.Turns.{turn}
use Rattle.bus_model.proofs.Theory.Turns.{group-frame}
use Rattle.bus_model.specs.declared.Frame.{Frame}
use Rattle.bus_model.specs.declared.Choice.TheVariants.{Any}

-- Each turn of whole periods adds the same to a frame's demand, wherever it starts.
demand-turns : {g : Frame} → ValidFrame g → (a : ℕ) {t : ℕ} → g.period ∣ t → (m n : ℕ) → demand g a (m * t + n) ≡ m * demand g 0 t + demand g a n
unfolding demand
demand-turns {g} valid a {t} whole m n =
    let p = g.period in
    let c = t / p in
    let is : t ≡ c * p = sym (div-mul_cancel p whole) in
    let all : m * t ≡ m * c * p = ap (λ (x : ℕ). m * x) is ∙ sym (mul_assoc m c p) in
    let turns : releases_before (distance g a) p (m * t + n) ≡ m * c + releases_before (distance g a) p n = rw all (count-turns (distance g a) valid.period (distance-lt valid a) (m * c) n) in
    let none : releases_before (distance g 0) p 0 ≡ 0 = omega (arith, count_small (distance g 0) valid.period 0) in
    let one : releases_before (distance g 0) p t ≡ c
    = ap (releases_before (distance g 0) p) (omega (arith, is)) ∙ count-turns (distance g 0) valid.period (distance-lt valid 0) c 0 ∙ omega (arith, none) in
    rw (turns, one) (mul-add g.length (m * c) (releases_before (distance g a) p n) ∙ ap (λ (x : ℕ). x + g.length * releases_before (distance g a) p n) (mul_left_comm g.length m c))

-- So it does to the work of frames that all look the same after it.
work-turns : (gs : List Frame) → ((g : Frame) → Mem g gs → ValidFrame g) → {t : ℕ} → ((g : Frame) → Mem g gs → g.period ∣ t) → (a m n : ℕ)
    → work_at gs a (m * t + n) ≡ m * work_at gs 0 t + work_at gs a n
unfolding work_at sum
work-turns [] valid whole a m n = omega (arith, mul-zero m)
work-turns (g ∷ gs) valid {t} whole a m n =
    omega (arith, demand-turns (valid g (here refl)) a (whole g (here refl)) m n, work-turns gs (λ f l. valid f (there l)) (λ f l. whole f (there l)) a m n, mul-add m (demand g 0 t) (sum (λ f. demand f 0 t) gs))

-- The greatest of sums with one number is that number and the greatest of the others; with 0 also where there are none.
greatest-add : (f : ℕ → ℕ) (c : ℕ) (xs : List ℕ) → (0 < c → (x : ℕ) × Mem x xs) → greatest (λ a. c + f a) xs ≡ c + greatest f xs
greatest-add f c xs some =
    let most = greatest-le {f = λ a. c + f a} {n = c + greatest f xs} xs (λ a l. omega (arith, le-greatest f l)) in
    let least = greatest-le {f = f} {n = greatest (λ a. c + f a) xs - c} xs (λ a l. omega (arith, le-greatest (λ b. c + f b) l)) in
    let all : c ≤ greatest (λ a. c + f a) xs = reached c refl in
    omega arith
  where
    reached : (b : ℕ) → b ≡ c → c ≤ greatest (λ a. c + f a) xs
    reached zero e = omega arith
    reached (suc b) e = let (x, m) = some (omega arith) in omega (arith, le-greatest (λ a. c + f a) m)

module _ {fs : List Frame} (valid : Valid fs) (k : Frame) (j : ℕ) where
  abbrev gs : List Frame
  gs = of_group (ahead fs k) j

  -- the greatest work of the group in the first n ticks
  abbrev most : ℕ → ℕ
  most n = group_work gs (alignments fs k j) Any n

  -- It is the same from one length to another, if it is at both.
  pub stair : {low high n : ℕ} → low ≤ n → n ≤ high → most low ≡ most high → most n ≡ most low
  stair {low} {high} {n} l h same =
      let up = group-mono l gs (λ g m. group-frame valid k j m) (alignments fs k j) Any in
      let down = group-mono h gs (λ g m. group-frame valid k j m) (alignments fs k j) Any in
      omega arith

  -- Each turn adds the work of a turn, which is the same from every instant.
  pub most-turns : (m n : ℕ) → most (m * turn fs k j + n) ≡ m * work_at gs 0 (turn fs k j) + most n
  unfolding group_work work_at sum turn
  most-turns m n = rw same (greatest-add (λ a. work_at gs a n) c (alignments fs k j) (some gs refl))
    where
      c : ℕ
      c = m * work_at gs 0 (turn fs k j)

      same : ◌≡◌ {A = ℕ → ℕ} (λ a. work_at gs a (m * turn fs k j + n)) (λ a. c + work_at gs a n)
      same = fun_ext (λ a. work-turns gs (λ g l. group-frame valid k j l) (λ g l. hyperperiod-multiple gs l) a m n)

      some : (hs : List Frame) → hs ≡ gs → 0 < m * work_at hs 0 (turn fs k j) → (a : ℕ) × Mem a (alignments fs k j)
      some [] none l = absurd (omega (arith, mul-zero m, l))
      some (g ∷ hs) is l = (phase g, phase-aligned valid k j (subst (Mem g) is (here refl)))
