-- Placed frames: their work is that of the scenario, or a bound of it where a group is open; and the loop that places them.
use Rattle.std.specs.Prelude.{◌≡◌, ℕ, suc, ◌+◌, ◌*◌, ◌<◌, ◌≤◌, Bool, true, false, cond, ◌≢◌, List, [], ◌∷◌, ◌++◌, map, length, set, take, drop, ◌==◌, nat_eq}
use Rattle.std.proofs.Math.Path.{refl, sym, ap}
use Rattle.std.proofs.lemmas.List.{take_more_set}
use Rattle.std.proofs.Common.{append-nil, append_assoc, ◌∙◌, ⊎_elim, add-one, eqb→eq, drop_of_length-le, length-append, drop-cons}
use mathlib.Core.List.Memᴰ
use mathlib.Core.List.Memᴰ.{head as here}
use mathlib.Core.List.Memᴰ.{tail as there}
use mathlib.Core.List.{map-append, Memᴰ as Mem}
use native.Mathlib.Omega.{arith}
use Rattle.std.proofs.Math.Nat.{le_refl, le_of_eq, mul-le-mul_left, zero-add}
use Rattle.std.proofs.Math.Dec.{eqb_refl}
use Rattle.std.proofs.lemmas.List.{length-map}
use Rattle.std.proofs.Math.ListN.{length-set}
use Rattle.arith.specs.Lists.{sum, keep, range}
use Rattle.arith.specs.Releases.{releases_before}
use Rattle.arith.specs.Laws.Tests.{cond_yes, cond_no}
use Rattle.arith.specs.Laws.Members.{keep-le, of-keep, of_map}
use Rattle.arith.specs.Laws.Sums.{sum-le, sum_same, sum-append, sum-keep, sum-at, greatest-le}
use Rattle.arith.specs.Laws.Releases.{count-mono, count-ahead, count-later}
use Rattle.bus_model.specs.declared.Frame.{Frame}
use Rattle.bus_model.specs.declared.Faults.{Faults}
use Rattle.bus_model.specs.declared.Faults.TheVariants.{Never, Apart}
use Rattle.bus_model.specs.declared.Choice.{Choice}
use Rattle.bus_model.specs.declared.Choice.TheVariants.{Fixed, Any}
use Rattle.bus_model.specs.Frame.{no_frame, row}
use Rattle.bus_model.specs.Pattern.{of_group}
use Rattle.bus_model.specs.Bounds.{groups, ahead, better, alignments, choice_of, demand, work_at, group_work, work}
use Rattle.bus_model.proofs.Theory.Frames.{of-group}
use Rattle.workload.specs.declared.Search.{Search}
use Rattle.workload.specs.declared.Search.TheVariants.{Window, Instance}
use Rattle.workload.specs.declared.Target.{Target}
use Rattle.workload.specs.declared.placed.PlacedFrame.{PlacedFrame}
use Rattle.workload.specs.Prepared.{Fine, FineTable}
use Rattle.workload.specs.Placed.{Placed, is_load, first_release, placed_frame, placed_out, placed_demand, placed_work, AllFixed, FineOne, FinePlaced, placed_at, placed_in, placed_frames, fault_frames, placed_faults}
use Rattle.workload.specs.Faults.{FineFaults, FineTarget, faults_in, lead_of}
use Rattle.workload.proofs.Laws.Fine.{member-fine}

-- ---- a sum over frames, group by group

-- what the frames of group j give, each by a term that may depend on the group
abbrev group_sum : (ℕ → Frame → ℕ) → List Frame → ℕ → ℕ
group_sum h gs j = sum (h j) (of_group gs j)

module _ (h : ℕ → Frame → ℕ) where
  -- One frame more counts at its own group alone.
  group-more : (g : Frame) (gs : List Frame) (j : ℕ) → group_sum h (g ∷ gs) j ≡ cond (g.group == j) (h j g) 0 + group_sum h gs j
  unfolding of_group sum
  group-more g gs j = rw (sum-keep (λ (f : Frame). nat_eq f.group j) (h j) (g ∷ gs), sum-keep (λ (f : Frame). nat_eq f.group j) (h j) gs)

  groups_none : sum (group_sum h []) (range 1 groups) ≡ 0
  unfolding sum range of_group keep
  groups_none = refl

  -- So a sum over the groups is one over the frames.
  groups-frames : (gs : List Frame) → ((g : Frame) → Mem g gs → Fine g) → sum (group_sum h gs) (range 1 groups) ≡ sum (λ g. h g.group g) gs
  unfolding sum
  groups-frames [] fine = groups_none
  groups-frames (g ∷ gs) fine =
      let f = fine g (here refl) in
      let rest = groups-frames gs (λ x m. fine x (there m)) in
      let mine : group_sum h (g ∷ gs) g.group ≡ h g.group g + group_sum h gs g.group = group-more g gs g.group ∙ ap (λ (x : ℕ). x + group_sum h gs g.group) (cond_yes (g.group == g.group) (h g.group g) 0 (eqb_refl g.group)) in
      let other : (j : ℕ) → j ≢ g.group → group_sum h (g ∷ gs) j ≡ group_sum h gs j =
      λ j ne. group-more g gs j ∙ ap (λ (x : ℕ). x + group_sum h gs j) (cond_no (g.group == j) (h j g) 0 (λ t. ne (sym (eqb→eq g.group j t)))) ∙ zero-add _ in
      let least = sum-at (group_sum h gs) (group_sum h (g ∷ gs)) (h g.group g) 0 1 groups g.group f.group-low (omega (arith, f.group-high)) (λ j low high ne. le_of_eq (sym (other j ne))) (omega arith) in
      let most = sum-at (group_sum h (g ∷ gs)) (group_sum h gs) 0 (h g.group g) 1 groups g.group f.group-low (omega (arith, f.group-high)) (λ j low high ne. le_of_eq (other j ne)) (omega arith) in
      omega arith

-- ---- the work of frames placed

-- what a frame asks for by a choice for its group
abbrev by_choice : Choice → ℕ → Frame → ℕ
by_choice c n g = g.length * releases_before (first_release c g) g.period n

sum-map : {A B : Type 0} (f : B → ℕ) (t : A → B) (xs : List A) → sum f (map t xs) ≡ sum (λ x. f (t x)) xs
unfolding sum
sum-map f t [] = refl
sum-map f t (x ∷ xs) = ap (λ (s : ℕ). f (t x) + s) (sum-map f t xs)

-- It is a sum over the groups.
placed-groups : (gs : List Frame) → ((g : Frame) → Mem g gs → Fine g) → (cs : List Choice) (n : ℕ)
    → placed_work (map (placed_frame cs) gs) n ≡ sum (λ j. sum (by_choice (choice_of cs j) n) (of_group gs j)) (range 1 groups)
unfolding placed_work placed_frame
placed-groups gs fine cs n = sum-map (placed_demand n) (placed_frame cs) gs ∙ sym (groups-frames (λ j. by_choice (choice_of cs j) n) gs fine)

module _ (fs : List Frame) (k : Frame) (gs : List Frame) (fine : (g : Frame) → Mem g gs → Fine g) (cs : List Choice) (n : ℕ) where
  -- Where a group's alignment is open, no alignment gives it more work;
  group-above : (j : ℕ) (c : Choice) → group_work (of_group gs j) (alignments fs k j) c n ≤ sum (by_choice c n) (of_group gs j)
  unfolding group_work work_at demand first_release
  group-above j (Fixed a) = le_refl _
  group-above j Any = greatest-le (alignments fs k j) (λ a m. sum-le (of_group gs j) (λ g l. mul-le-mul_left g.length (count-later (omega arith) (fine g (of-group gs j l).0).period-low n)))

  -- where it is fixed, it has that work.
  group-exact : (j : ℕ) {c : Choice} {a : ℕ} → c ≡ Fixed a → group_work (of_group gs j) (alignments fs k j) c n ≡ sum (by_choice c n) (of_group gs j)
  unfolding group_work work_at demand first_release
  group-exact j e = rw e

  above : work fs k gs cs n ≤ placed_work (map (placed_frame cs) gs) n
  unfolding work
  above = rw (placed-groups gs fine cs n) (sum-le (range 1 groups) (λ j m. group-above j (choice_of cs j)))

  exact : AllFixed cs → work fs k gs cs n ≡ placed_work (map (placed_frame cs) gs) n
  unfolding work
  exact fixed = sum_same (range 1 groups) (λ j m. group-exact j (fixed j m).1) ∙ sym (placed-groups gs fine cs n)

-- ---- those that load a scenario of a table

module _ {fs : List Frame} (table : FineTable fs) (k : Frame) (cs : List Choice) where
  load-fine : (search : Search) (g : Frame) → Mem g (keep (is_load search k) fs) → Fine g
  load-fine search g m = member-fine fs table (of-keep _ fs m).0

  frame-fine : {g : Frame} → Fine g → FineOne (placed_frame cs g)
  unfolding placed_frame
  frame-fine fine = record { length_high = omega (arith, fine.length_high); period-low = fine.period-low; period-high = fine.period-high }

  -- They are as many as the rows at most,
  pub frames-few : (search : Search) → length (placed_frames fs k search cs) ≤ 64
  frames-few search = rw (length-map (keep (is_load search k) fs) (placed_frame cs)) (omega (arith, keep-le (is_load search k) fs, table.few))

  -- and within their limits.
  frames-fine : (search : Search) (g : Placed) → Mem g (placed_frames fs k search cs) → FineOne g
  frames-fine search g m = let (x, l, e) = of_map (placed_frame cs) (keep (is_load search k) fs) m in rw e (frame-fine (load-fine search x l))

  -- Where every group's alignment is fixed, their work is that of the better frames, for a start, and of those ahead, for a window.
  module _ (fixed : AllFixed cs) (n : ℕ) where
    pub better-exact : (q : ℕ) → work fs k (better fs k) cs n ≡ placed_work (placed_frames fs k (Instance q) cs) n
    unfolding better
    better-exact q = exact fs k (keep (is_load (Instance q) k) fs) (load-fine (Instance q)) cs n fixed

    pub ahead-exact : work fs k (ahead fs k) cs n ≡ placed_work (placed_frames fs k Window cs) n
    unfolding ahead
    ahead-exact = exact fs k (keep (is_load Window k) fs) (load-fine Window) cs n fixed

  -- Elsewhere it is not below that of the better frames, for a start.
  pub better-above : (q n : ℕ) → work fs k (better fs k) cs n ≤ placed_work (placed_frames fs k (Instance q) cs) n
  unfolding better
  better-above q n = above fs k (keep (is_load (Instance q) k) fs) (load-fine (Instance q)) cs n

-- ---- the faults behind them

-- Where there are such, they are one frame,
faults-few : (faults : Faults) (cost lead : ℕ) → length (fault_frames faults cost lead) ≤ 1
unfolding fault_frames
faults-few Never cost lead = omega arith
faults-few (Apart gap) cost lead = omega arith

-- within its limits.
faults-fine : (faults : Faults) → FineFaults faults → (cost lead : ℕ) → cost ≤ 431 → (g : Placed) → Mem g (fault_frames faults cost lead) → FineOne g
unfolding fault_frames FineFaults
faults-fine Never premise cost lead small g m = absurd (Memᴰ.not-nil m)
faults-fine (Apart gap) premise cost lead small g m =
    rw (Memᴰ.eq_of_singleton m) (record { length_high = small; period-low = premise.0; period-high = premise.1 })

-- They ask for what they cost in the time counted, but for those in the lead.
pub faults-work : (faults : Faults) → FineFaults faults → (cost lead n : ℕ)
    → faults_in faults lead * cost + placed_work (fault_frames faults cost lead) n ≡ faults_in faults (n + lead) * cost
unfolding fault_frames placed_work sum faults_in FineFaults
faults-work Never premise cost lead n = omega arith
faults-work (Apart gap) premise cost lead n = rw (count-ahead premise.0 n lead) (omega arith)

-- All that is placed is within its limits.
pub placed-fine : {fs : List Frame} → FineTable fs → {t : Target} → FineTarget t → (search : Search) (cs : List Choice) → FinePlaced (placed_out fs t search cs)
placed-fine {fs} table {t} target search cs =
    let frames = placed_frames fs t.frame search cs in
    let faults = placed_faults t search in
    let lead = lead_of search t.frame in
    record {
      few = omega (arith, length-append frames faults, frames-few table t.frame cs search, faults-few t.faults t.cost lead);
      fine = λ g m. ⊎_elim (frames-fine table t.frame cs search g) (faults-fine t.faults target.premise t.cost lead target.cost g) (Memᴰ.append_cases frames m);
    }

-- The work of all is that of the frames and that of the faults.
pub placed-both : (fs : List Frame) (t : Target) (search : Search) (cs : List Choice) (n : ℕ)
    → placed_work (placed_out fs t search cs) n ≡ placed_work (placed_frames fs t.frame search cs) n + placed_work (placed_faults t search) n
unfolding placed_work
placed-both fs t search cs n = sum-append (placed_demand n) (placed_frames fs t.frame search cs) (placed_faults t search)

-- The work grows with time.
pub placed-mono : {gs : List Placed} → FinePlaced gs → {n n' : ℕ} → n ≤ n' → placed_work gs n ≤ placed_work gs n'
unfolding placed_work
placed-mono {gs} all le = sum-le gs (λ g m. mul-le-mul_left g.length (count-mono g.first (all.fine g m).period-low le))

-- ---- placing them, frame by frame

pub length-placed : (ps : List PlacedFrame) → length (placed_in ps) ≡ length ps
unfolding placed_in
length-placed ps = length-map ps placed_at

-- Behind the first i stands one more.
pub placed-more : (area : List PlacedFrame) (i : ℕ) → i < length area → (x : PlacedFrame) → placed_in (take (i + 1) (set area i x)) ≡ placed_in (take i area) ++ (placed_at x ∷ [])
unfolding placed_in
placed-more area i inside x = ap (map placed_at) (take_more_set area i x inside) ∙ map-append placed_at (take i area) (x ∷ [])

-- So many of the frames to be placed stand in the area; the others come from the rows from i on.
pub record PlacedTo (fs : List Frame) (k : Frame) (search : Search) (cs : List Choice) (area : List PlacedFrame) (count i : ℕ) : Type 0 where
  pub few : count ≤ i
  pub size : length area ≡ 65
  pub all : placed_in (take count area) ++ placed_frames (drop i fs) k search cs ≡ placed_frames fs k search cs

module _ {fs : List Frame} {k : Frame} {search : Search} {cs : List Choice} {area : List PlacedFrame} where
  -- At first none is.
  pub place_none : length area ≡ 65 → PlacedTo fs k search cs area 0 0
  unfolding placed_in
  place_none size = record { few = omega arith; size = size; all = refl }

  module _ {m i : ℕ} (s : PlacedTo fs k search cs area m i) (inside : i < length fs) {g : Frame} (is : g ≡ row fs i) {b : Bool} (test : b ≡ is_load search k g) where
    -- what the rows from i on give
    rest : placed_frames (drop i fs) k search cs ≡ map (placed_frame cs) (cond b (g ∷ keep (is_load search k) (drop (suc i) fs)) (keep (is_load search k) (drop (suc i) fs)))
    unfolding keep
    rest = rw (drop-cons fs i no_frame inside, test, is)

    -- A frame that loads the scenario is put there,
    pub place-put : m < 65 → b ≡ true → (x : PlacedFrame) → placed_at x ≡ placed_frame cs g → {area' : List PlacedFrame} → area' ≡ set area m x → {m' : ℕ} → m' ≡ m + 1 → PlacedTo fs k search cs area' m' (i + 1)
    place-put room t x at put more =
        let later = placed_frames (drop (suc i) fs) k search cs in
        rw (put, more) (record {
          few = omega (arith, s.few);
          size = length-set area m x ∙ s.size;
          all = rw (add-one i) (
              ap (λ (ys : List Placed). ys ++ later) (placed-more area m (omega (arith, s.size)) x)
              ∙ append_assoc (placed_in (take m area)) (placed_at x ∷ []) later
              ∙ ap (λ (y : Placed). placed_in (take m area) ++ (y ∷ later)) at
              ∙ ap (λ (ys : List Placed). placed_in (take m area) ++ ys) (sym (rw t at rest)) ∙ s.all);
        })

    -- and any other is passed over.
    pub place-skip : b ≡ false → {area' : List PlacedFrame} → area' ≡ area → {m' : ℕ} → m' ≡ m → PlacedTo fs k search cs area' m' (i + 1)
    place-skip f same still =
        rw (same, still) (record {
          few = omega (arith, s.few);
          size = s.size;
          all = rw (add-one i) (ap (λ (ys : List Placed). placed_in (take m area) ++ ys) (sym (rw f at rest)) ∙ s.all);
        })

  -- At the end all are.
  pub place-all : {m i : ℕ} → PlacedTo fs k search cs area m i → length fs ≤ i → placed_in (take m area) ≡ placed_frames fs k search cs
  unfolding keep
  place-all {m} {i} s over =
      let none : placed_frames (drop i fs) k search cs ≡ [] = ap (λ (xs : List Frame). placed_frames xs k search cs) (drop_of_length-le fs {i = i} over) in
      sym (append-nil (placed_in (take m area))) ∙ ap (λ (ys : List Placed). placed_in (take m area) ++ ys) (sym none) ∙ s.all
