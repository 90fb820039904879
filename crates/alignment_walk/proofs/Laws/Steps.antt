-- A walk along the alignments of a group: the demand of the whole periods and of their rest, and what is noted of each frame.
use Rattle.std.specs.Prelude.{ℕ, ◌+◌, ◌-◌, ◌/◌, ◌%◌, ◌≤◌, ◌<◌, ◌≡◌, refl, ◌≢◌, Bool, true, false, cond, eqb, ltb, length, get_or, set, Some}
use Rattle.std.proofs.Common.{ap, ◌∙◌, mod-lt, mul-le-mul_right, mul-le-mul, div-le_self, length-set, get_or-set_same, get_or-set_other, below_more, lt-ltb, le-ltb, eq-eqb, ne_eqb}
use mathlib.Core.List.Memᴰ.{head as here}
use mathlib.Core.List.Memᴰ.{tail as there}
use mathlib.Core.List.{List, [], ◌∷◌, Memᴰ as Mem}
use native.Mathlib.Omega.{arith}
use Rattle.std.proofs.Math.Decide.{dec_le}
use Rattle.std.proofs.Math.Nat.{mod-add-div'}
use Rattle.arith.specs.Lists.{sum}
use Rattle.arith.specs.Least.{least}
use Rattle.arith.specs.Releases.{releases_before}
use Rattle.arith.specs.Laws.Members.{exists-mem}
use Rattle.arith.specs.Laws.Least.{least-within, least-le}
use Rattle.arith.specs.Laws.Releases.{counted, count-le, next-after}
use Rattle.bus_model.specs.declared.Frame.{Frame}
use Rattle.bus_model.specs.Frame.{row}
use Rattle.bus_model.specs.Bounds.{phase, is_released_at, distance, demand, work_at}
use Rattle.bus_model.proofs.Theory.Alignment.{distance-lt}
use Rattle.workload.specs.Prepared.{Fine, FinePart, frames_in, table_of, is_instant}
use Rattle.alignment_walk.specs.Steps.{next_release, wait_from, rest_of, whole_demand, extra_demand, NotesOf, Notes, Noted}
use Rattle.workload.proofs.Laws.Fine.{of-fine, part-listed}
use Rattle.alignment_walk.proofs.Laws.Parts.{next-released, next-late, next-distance, next-stays, next-period, next-phase}

-- ---- the demand

-- A release at d, d + p, .. is one in each whole period, and one more in the rest where that is longer than d.
module _ (d n : ℕ) {p : ℕ} (pos : 1 ≤ p) (short : d < p) where
  rest_in : d < n % p → releases_before d p n ≡ n / p + 1
  rest_in less =
      let is = mod-add-div' n p in
      let more : n / p < releases_before d p n = (counted d pos n (n / p)).1 (omega arith) in
      let few : releases_before d p n ≤ n / p + 1 = count-le d pos n (n / p + 1) (omega (arith, mod-lt n pos)) in
      omega arith

  rest_out : n % p ≤ d → releases_before d p n ≡ n / p
  rest_out over =
      let is = mod-add-div' n p in
      let few : releases_before d p n ≤ n / p = count-le d pos n (n / p) (omega arith) in
      let many : ¬ (releases_before d p n < n / p) = λ less. omega (arith, next-after d pos n, mul-le-mul_right p less) in
      omega arith

module _ {g : Frame} (fine : Fine g) (a n : ℕ) where
  -- So a frame's demand is that of the whole periods and of the rest,
  demand-split : demand g a n ≡ whole_demand n g + extra_demand a n g
  unfolding demand
  demand-split =
      let short = distance-lt (of-fine fine) a in
      elim (dec_le (n % g.period) (distance g a)) [
        | yes over ↦ rw (le-ltb (distance g a) (n % g.period) over, rest_out (distance g a) n fine.period-low short over) (omega arith)
        | no under ↦ let less : distance g a < n % g.period = omega arith in rw (lt-ltb (distance g a) (n % g.period) less, rest_in (distance g a) n fine.period-low short less) (omega arith)
      ]

-- and so are sums,
sum-split : {A : Type 0} (f g : A → ℕ) {h : A → ℕ} (xs : List A) → ((x : A) → Mem x xs → h x ≡ f x + g x) → sum f xs + sum g xs ≡ sum h xs
unfolding sum
sum-split f g [] all = refl
sum-split f g (x ∷ xs) all = let rest = sum-split f g xs (λ y m. all y (there m)) in omega (arith, all x (here refl))

-- and the work at an alignment.
pub work-split : (gs : List Frame) → ((g : Frame) → Mem g gs → Fine g) → (a n : ℕ) → sum (whole_demand n) gs + sum (extra_demand a n) gs ≡ work_at gs a n
unfolding work_at
work-split gs fine a n = sum-split (whole_demand n) (extra_demand a n) gs (λ g m. demand-split (fine g m) a n)

-- The whole periods ask for no more than this.
pub whole-small : {g : Frame} → Fine g → (n : ℕ) → n ≤ 1000001 → whole_demand n g ≤ 400000400
whole-small {g} fine n most = mul-le-mul {n₂ = 400} {m₂ = 1000001} fine.length_high (omega (arith, div-le_self n g.period))

-- The rest asks for a length at the most.
pub extra-small : {g : Frame} → Fine g → (a n : ℕ) → extra_demand a n g ≤ 400
extra-small {g} fine a n = go (ltb (distance g a) (rest_of n g))
  where
    go : (b : Bool) → cond b g.length 0 ≤ 400
    go true = fine.length_high
    go false = omega arith

-- ---- how long a release is waited for at alignment a

module _ {g : Frame} (fine : Fine g) (a : ℕ) {w : ℕ} (is : w ≡ wait_from a a g) where
  -- It is the distance, and so tells what the rest asks for,
  pub wait-rest : (n : ℕ) → cond (ltb w (rest_of n g)) g.length 0 ≡ extra_demand a n g
  wait-rest n = let away : w ≡ distance g a = omega (arith, next-distance fine a) in rw away

  -- and how long the next one is waited for.
  pub wait-next : cond (eqb w 0) g.period w ≡ wait_from a (a + 1) g
  wait-next =
      elim (dec_le w 0) [
        | yes none ↦ let now : w ≡ 0 = omega arith in rw (eq-eqb w 0 now) (omega (arith, next-period fine a (omega (arith, next-late fine a))))
        | no some ↦ rw (ne_eqb w 0 (λ e. some (omega arith))) (omega (arith, next-stays fine a (a + 1) (omega arith) (omega (arith, next-late fine a))))
      ]

-- ---- what is noted

-- the first i places of an area for a group's frames are noted
pub record NotedTo (f : Frame → ℕ) (fs : List Frame) (part area : List ℕ) (i : ℕ) : Type 0 where
  pub size : length area ≡ 64
  pub each : (j : ℕ) → j < i → get_or area j 0 ≡ f (row fs (get_or part j 0))

-- those from i on are
pub record NotedFrom (f : Frame → ℕ) (fs : List Frame) (part area : List ℕ) (i : ℕ) : Type 0 where
  pub each : (j : ℕ) → i ≤ j → j < length part → get_or area j 0 ≡ f (row fs (get_or part j 0))

module _ {f : Frame → ℕ} {fs : List Frame} {part area : List ℕ} where
  -- At first none are.
  pub note-none : length area ≡ 64 → NotedTo f fs part area 0
  note-none size = record { size = size; each = λ j l. absurd (omega arith) }

  module _ {i : ℕ} (v : ℕ) where
    -- One more is noted,
    pub note-more : NotedTo f fs part area i → i < 64 → v ≡ f (row fs (get_or part i 0)) → NotedTo f fs part (set area i v) (i + 1)
    note-more all inside is = record {
      size = length-set area i v ∙ all.size;
      each = below_more _ _ (λ j l. get_or-set_other area i j v 0 (omega arith) ∙ all.each j l) (get_or-set_same area i v 0 (omega (arith, all.size)) ∙ is);
    }

    -- and those after it stay.
    pub note-left : NotedFrom f fs part area i → NotedFrom f fs part (set area i v) (i + 1)
    note-left all = record { each = λ j late l. get_or-set_other area i j v 0 (omega arith) ∙ all.each j (omega arith) l }

  -- At the end all are.
  pub note-all : {i : ℕ} → NotedTo f fs part area i → length part ≤ i → Noted f fs part area
  note-all all over = record { size = all.size; each = λ j l. all.each j (omega arith) }

-- the first i places of an area are noted
pub record NotesTo (n : ℕ) (fs : List Frame) (part area : List ℕ) (i : ℕ) : Type 0 where
  pub size : length area ≡ 192
  pub each : (j : ℕ) → j < i → NotesOf n (row fs (get_or part j 0)) area j

module _ {n : ℕ} {fs : List Frame} {part area : List ℕ} where
  pub notes-none : length area ≡ 192 → NotesTo n fs part area 0
  notes-none size = record { size = size; each = λ j l. absurd (omega arith) }

  pub notes-more : {i : ℕ} → NotesTo n fs part area i → i < 64 → {g : Frame} → g ≡ row fs (get_or part i 0) → {rest : ℕ} → rest ≡ rest_of n g
      → NotesTo n fs part (set (set (set area i g.length) (64 + i) g.period) (128 + i) rest) (i + 1)
  notes-more {i} all inside {g} is {rest} rests =
      let one = set area i g.length in
      let two = set one (64 + i) g.period in
      let size-one : length one ≡ 192 = length-set area i g.length ∙ all.size in
      let size-two : length two ≡ 192 = length-set one (64 + i) g.period ∙ size-one in
      let stays : (m : ℕ) → m ≢ i → m ≢ 64 + i → m ≢ 128 + i → get_or (set two (128 + i) rest) m 0 ≡ get_or area m 0 =
      λ m a b c. get_or-set_other two (128 + i) m rest 0 c ∙ get_or-set_other one (64 + i) m g.period 0 b ∙ get_or-set_other area i m g.length 0 a in
      record {
        size = length-set two (128 + i) rest ∙ size-two;
        each = below_more _ _
            (λ j l. let o = all.each j l in record {
              length = stays j (omega arith) (omega arith) (omega arith) ∙ o.length;
              period = stays (64 + j) (omega arith) (omega arith) (omega arith) ∙ o.period;
              rest = stays (128 + j) (omega arith) (omega arith) (omega arith) ∙ o.rest;
            })
            (record {
              length = get_or-set_other two (128 + i) i rest 0 (omega arith) ∙ get_or-set_other one (64 + i) i g.period 0 (omega arith) ∙ get_or-set_same area i g.length 0 (omega (arith, all.size)) ∙ ap (λ (x : Frame). x.length) is;
              period = get_or-set_other two (128 + i) (64 + i) rest 0 (omega arith) ∙ get_or-set_same one (64 + i) g.period 0 (omega arith) ∙ ap (λ (x : Frame). x.period) is;
              rest = get_or-set_same two (128 + i) rest 0 (omega arith) ∙ rests ∙ ap (rest_of n) is;
            });
      }

  pub notes-all : {i : ℕ} → NotesTo n fs part area i → length part ≤ i → Notes n fs part area
  notes-all all over = record { size = all.size; each = λ j l. all.each j (omega arith) }

-- ---- the next alignment

module _ {rows p part : List ℕ} (fine : FinePart rows p part) (a e : ℕ) {b : ℕ} (found : least (is_instant (frames_in (table_of rows p) part)) (e - a) a ≡ Some b) where
  abbrev fs : List Frame
  fs = table_of rows p

  -- No frame is released between a and the next alignment,
  next-inside : {g : Frame} → Mem g (frames_in fs part) → b ≤ next_release a g
  next-inside {g} m = least-le _ _ _ _ _ found (next-late (fine.fine g m) a) (exists-mem (is_released_at (next_release a g)) m (next-released (fine.fine g m) a))

  -- so that the first releases at a or later are those at that alignment or later.
  pub noted-next : (last : ℕ) {waits : List ℕ} → Noted (wait_from last a) fs part waits → Noted (wait_from last b) fs part waits
  noted-next last noted = record {
    size = noted.size;
    each = λ i l.
        let m = part-listed fs part l in
        let (low, high, t) = least-within _ _ found in
        noted.each i l ∙ ap (λ (t : ℕ). t - last) (next-stays (fine.fine _ m) a b low (next-inside m));
  }

-- No frame is released before the first alignment.
pub phase-late : {rows p part : List ℕ} (fine : FinePart rows p part) (e : ℕ) {b : ℕ} → least (is_instant (frames_in (table_of rows p) part)) (e - 0) 0 ≡ Some b
    → (g : Frame) → Mem g (frames_in (table_of rows p) part) → b ≤ phase g
phase-late fine e found g m = omega (arith, next-inside fine 0 e found m, next-phase (fine.fine g m))
