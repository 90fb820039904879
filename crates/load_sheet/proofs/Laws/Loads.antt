-- A node's frames, their work and the node's group, as loops over the rows of a table find them.
use Prim.Native.Nat.{ℕ, zero, suc, ◌+◌, ◌-◌, ◌*◌, ◌/◌, ◌%◌, ◌≤◌, ◌<◌}
use Rattle.std.specs.Prelude.{◌≡◌, Bool, ◌≢◌, T, eqb}
use Rattle.std.proofs.Math.Path.{refl, sym, subst}
use Rattle.std.proofs.Common.{ap, ◌∙◌, add-zero, arith, eqb→eq}
use Rattle.std.proofs.Math.Bool.{true, false, cond}
use mathlib.Core.List.Memᴰ.{head as here}
use mathlib.Core.List.Memᴰ.{not-nil}
use mathlib.Core.List.{List, [], ◌∷◌, map, Memᴰ as Mem}
use Rattle.std.proofs.Math.Nat.{zero-add, sub-zero}
use borrow.Author.Tests.{eq-eqb, ne_eqb}
use Rattle.std.proofs.Math.Dec.{eqb_refl}
use Rattle.std.proofs.Math.ListN.{length, get_or}
use Rattle.arith.specs.Lists.{sum, keep, exists, range}
use Rattle.arith.specs.Laws.Members.{range-next, range-end, length-range, mem-keep, of-keep, exists-mem, of-exists, mem-range, of_range, exists-stop, exists-go, exists-end}
use Rattle.arith.specs.Laws.Walks.{Down, down-start, down-more}
use Rattle.bus_model.specs.declared.Frame.{Frame}
use Rattle.bus_model.specs.Frame.{row}
use Rattle.bus_model.specs.Pattern.{of_group, hyperperiod}
use Rattle.bus_model.proofs.Theory.Frames.{group-pos}
use Rattle.table_checks.specs.Columns.{field, columns, node_column, group_column, kind_column, payload_column}
use Rattle.table_checks.specs.Frames.{frame_at, frames_of}
use Rattle.table_checks.specs.Checks.{Loadable, Accepted}
use Rattle.table_checks.proofs.Laws.Lengths.{length-bounds}
use Rattle.table_checks.proofs.Laws.Accepted.{frame_row, accepted-limits, accepted-group, accepted-pattern, accepted-valid}
use Rattle.load_sheet.specs.declared.Load.{Load}
use Rattle.load_sheet.specs.Load.{work_in, dividend, load_of}
use Rattle.load_sheet.specs.Sheet.{is_of, has_frames, rows_of, group_of}

-- A test that passes is true.
pub is_true : (b : Bool) → T b → b ≡ true
is_true true t = refl
is_true false t = absurd t

-- The frames of an accepted table have a period, and are short.
pub frame-limits : (ls : List (List ℕ)) (rows : List ℕ) → Loadable ls → Accepted rows → (i : ℕ) → i < length rows / columns
    → (1 ≤ (frame_at ls rows i).period) × ((frame_at ls rows i).length ≤ 400)
unfolding frame_at
frame-limits ls rows loadable accepted i l =
    let m = accepted-limits rows accepted i l in
    (m.period-min, (length-bounds ls loadable (field rows i kind_column) (field rows i payload_column) m.payload-max).1)

-- The load by its work and its divisor.
pub load_is : (h : ℕ) (gs : List Frame) (d w : ℕ) → d ≡ h → w ≡ work_in d gs
    → ◌≡◌ {A = Load} (record { quotient = w * 10000 / d; remainder = w * 10000 % d; divisor = d }) (load_of h gs)
unfolding load_of dividend
load_is h gs d w divisor work = rw (work, divisor)

-- ---- whether a node has frames: a loop stops at the first

module _ (rows : List ℕ) (j : ℕ) where
  abbrev count : ℕ
  count = length rows / columns

  -- the rows from i on decide
  abbrev pub Decides : ℕ → Type 0
  Decides i = exists (is_of rows j) (range i (count - i)) ≡ has_frames rows j

  pub decides-first : Decides 0
  unfolding has_frames
  decides-first = rw sub-zero

  module _ (i : ℕ) (l : i < count) (decides : Decides i) where
    -- One of the node's is found.
    pub found_here : field rows i node_column ≡ j → true ≡ has_frames rows j
    unfolding is_of
    found_here e = exists-stop (is_of rows j) count i true l (sym (eq-eqb _ _ e)) refl ∙ decides

    -- Any other is passed over.
    pub found-later : field rows i node_column ≢ j → Decides (i + 1)
    unfolding is_of
    found-later e = exists-go (is_of rows j) count i false l (sym (ne_eqb _ _ e)) refl ∙ decides

  -- At the end there is none.
  pub found_none : (i : ℕ) → count ≤ i → Decides i → false ≡ has_frames rows j
  found_none i over decides = exists-end (is_of rows j) count i over ∙ decides

-- ---- the group of a node: that of the first of its rows

abbrev group_in : List ℕ → List ℕ → ℕ
group_in rows is = get_or (map (λ i. field rows i group_column) is) 0 0

module _ (rows : List ℕ) (j : ℕ) where
  -- none of the first i rows is the node's
  abbrev pub Ungrouped : ℕ → Type 0
  Ungrouped i = group_in rows (keep (is_of rows j) (range i (count rows j - i))) ≡ group_of rows j

  pub group-first : Ungrouped 0
  unfolding group_of rows_of
  group-first = rw sub-zero

  module _ (i : ℕ) (l : i < count rows j) (before : Ungrouped i) where
    pub group-here : field rows i node_column ≡ j → field rows i group_column ≡ group_of rows j
    unfolding keep is_of
    group-here e = sym (rw (range-next (count rows j) i l, eq-eqb _ _ e)) ∙ before

    pub group-later : field rows i node_column ≢ j → Ungrouped (i + 1)
    unfolding keep is_of
    group-later e = sym (rw (range-next (count rows j) i l, ne_eqb _ _ e)) ∙ before

  pub group-none : (i : ℕ) → count rows j ≤ i → Ungrouped i → 0 ≡ group_of rows j
  unfolding keep
  group-none i over before = rw (range-end (count rows j) i over) at before

-- The first of a list that has one.
first_of : (f : ℕ → ℕ) (is : List ℕ) {x : ℕ} → Mem x is → (i : ℕ) × Mem i is × (get_or (map f is) 0 0 ≡ f i)
first_of f [] m = absurd (not-nil m)
first_of f (i ∷ is) m = (i, here refl, refl)

-- A node that has frames has a row, whose group is the node's.
pub first-row : (rows : List ℕ) (j : ℕ) → has_frames rows j ≡ true
    → (i : ℕ) × (i < length rows / columns) × (field rows i node_column ≡ j) × (group_of rows j ≡ field rows i group_column)
unfolding has_frames is_of group_of rows_of
first-row rows j e =
    let n : ℕ = length rows / columns in
    let (x, k, t) = of-exists (is_of rows j) (range 0 n) (subst T (sym e) tt) in
    let (i, m, g) = first_of (λ i. field rows i group_column) (rows_of rows j) (mem-keep (is_of rows j) k t) in
    let (r, u) = of-keep (is_of rows j) (range 0 n) m in
    let (low, high) = of_range 0 n r in
    (i, omega arith, eqb→eq (field rows i node_column) j u, g)

-- ---- in an accepted table

module _ (rows : List ℕ) (accepted : Accepted rows) where
  -- All rows of a node have its group.
  pub group-is : (i : ℕ) → i < length rows / columns → group_of rows (field rows i node_column) ≡ field rows i group_column
  unfolding has_frames is_of
  group-is i l =
      let j : ℕ = field rows i node_column in
      let some = exists-mem (is_of rows j) (mem-range 0 (length rows / columns) i (omega arith) (omega arith)) (eqb_refl j) in
      let (m, h, node, group) = first-row rows j (is_true (has_frames rows j) some) in
      group ∙ accepted-group rows accepted i m l h node

  -- It is one of the groups.
  pub group-limits : (j : ℕ) → has_frames rows j ≡ true → (1 ≤ group_of rows j) × (group_of rows j ≤ 16)
  group-limits j e =
      let (i, l, node, group) = first-row rows j e in
      let m = accepted-limits rows accepted i l in
      rw group (m.group-min, m.group-max)

  -- The hyperperiod of its group is not 0, and small.
  pub divisor-limits : (ls : List (List ℕ)) → Loadable ls → (j : ℕ) → has_frames rows j ≡ true
      → (1 ≤ hyperperiod (of_group (frames_of ls rows) (group_of rows j))) × (hyperperiod (of_group (frames_of ls rows) (group_of rows j)) ≤ 1000000)
  divisor-limits ls loadable j e =
      let (low, high) = group-limits j e in
      (group-pos (accepted-valid rows accepted ls loadable) (group_of rows j), (accepted-pattern rows accepted ls (group_of rows j) low high).0)

-- ---- the work of a node's frames in h ticks

-- What stands at a place of a range.
range_at : (n k i : ℕ) → i < k → get_or (range n k) i 0 ≡ n + i
unfolding range
range_at n zero i l = absurd (omega arith)
range_at n (suc k) zero l = sym (add-zero n)
range_at n (suc k) (suc i) l = range_at (suc n) k i (omega arith) ∙ omega arith

module _ (ls : List (List ℕ)) (rows : List ℕ) (h j : ℕ) where
  -- of the node's among some rows
  abbrev pub work_of : List ℕ → ℕ
  work_of is = work_in h (map (frame_at ls rows) (keep (is_of rows j) is))

  -- of a row's frame, where the row is the node's
  abbrev row_work : ℕ → ℕ
  row_work i = cond (is_of rows j i) ((frame_at ls rows i).length * (h / (frame_at ls rows i).period)) 0

  work-cons : (i : ℕ) (is : List ℕ) → work_of (i ∷ is) ≡ row_work i + work_of is
  unfolding keep sum work_in
  work-cons i is = go (is_of rows j i)
    where
      go : (b : Bool) → work_in h (map (frame_at ls rows) (cond b (i ∷ keep (is_of rows j) is) (keep (is_of rows j) is)))
          ≡ cond b ((frame_at ls rows i).length * (h / (frame_at ls rows i).period)) 0 + work_of is
      go true = refl
      go false = sym (zero-add _)

  -- A loop down through the rows starts at 0.
  pub work_none : Down work_of (range 0 (length rows / columns)) 0 (length rows / columns)
  unfolding sum keep work_in
  work_none = subst (Down work_of (range 0 (length rows / columns)) 0) (length-range 0 (length rows / columns)) (down-start work_of (range 0 (length rows / columns)) refl)

  -- It takes one row more.
  pub work-more : {i s r : ℕ} {g : Frame} → Down work_of (range 0 (length rows / columns)) s i → 0 < i → g ≡ row (frames_of ls rows) (i - 1)
      → r ≡ cond (eqb (field rows (i - 1) node_column) j) (g.length * (h / g.period)) 0
      → Down work_of (range 0 (length rows / columns)) (r + s) (i - 1)
  unfolding is_of
  work-more {i} {s} d pos is e =
      let n : ℕ = length rows / columns in
      let l : i - 1 < n = omega (arith, d.inside, length-range 0 n) in
      let read : i - 1 ≡ get_or (range 0 n) (i - 1) 0 = sym (range_at 0 n (i - 1) l ∙ zero-add (i - 1)) in
      down-more work_of (range 0 n) (λ x acc. row_work x + acc) work-cons 0 d pos read (ap (λ (x : ℕ). x + s) (e ∙ rw (is, frame_row ls rows (i - 1) l)))
