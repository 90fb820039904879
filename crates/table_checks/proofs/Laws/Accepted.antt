-- What is known of an accepted table: its size, the limits of its numbers, its groups' patterns,
-- and that its frames, by lengths that passed, are valid in the sense of the bus model.
use Rattle.std.specs.Prelude.{ℕ, ◌+◌, ◌-◌, ◌/◌, ◌≤◌, ◌<◌, ◌≡◌, true, cond, T, ltb, Ok}
use Rattle.std.proofs.Math.Path.{refl, sym, ap}
use Rattle.std.proofs.Common.{subst, ◌∙◌}
use mathlib.Core.List.{List, [], ◌∷◌, map}
use Rattle.std.proofs.Math.Nat.{zero-add}
use native.Mathlib.Omega.{arith}
use Rattle.std.proofs.Math.Decide.{ℕ_discrete, dec_lt}
use borrow.Author.Tests.{eq-eqb, eqb-true, ltb-false}
use Rattle.std.proofs.Math.Dec.{eqb}
use Rattle.std.proofs.Math.ListN.{length}
use Rattle.std.proofs.lemmas.List.{length-map}
use Rattle.arith.specs.Lists.{sum, keep, range}
use Rattle.arith.specs.Multiples.{lcm, lcm_of}
use Rattle.arith.specs.Laws.Tests.{by-test}
use Rattle.arith.specs.Laws.Members.{fold-keep, length-range, get_d-table, get_d_beyond, exists-mem, mem-range}
use Rattle.bus_model.specs.declared.Frame.{Frame}
use Rattle.bus_model.specs.Frame.{no_frame, row}
use Rattle.bus_model.specs.Pattern.{of_group, hyperperiod, pattern_releases}
use Rattle.bus_model.specs.Valid.{ValidFrame, Valid}
use Rattle.table_checks.specs.declared.Cause.TheVariants.{Duplicate, Hyperperiod, Releases, SecondGroup}
use Rattle.table_checks.specs.Columns.{field, columns, node_column, group_column, identifier_column, kind_column, payload_column, period_column}
use Rattle.table_checks.specs.Frames.{frame_at, frames_of, unmeasured}
use Rattle.table_checks.specs.Checks.{lengths_check, rows_size_check, columns_check, is_same_frame, stands_earlier, is_other_group, has_second_group, line_check, lines_check, group_check, groups_check, table_check, rows_check, loaded_check, Accepted, Loadable}
use Rattle.table_checks.specs.Steps.{Periods}
use Rattle.table_checks.proofs.Laws.First.{first-passed, first-each}
use Rattle.table_checks.proofs.Laws.Limits.{Limits, not-passed, lines-each, lines-periods}
use Rattle.table_checks.proofs.Laws.Rank.{priority-same}
use Rattle.table_checks.proofs.Laws.Lengths.{length-bounds}
use Rattle.table_checks.proofs.Laws.Sizes.{RowsSize, rows-size}

-- ---- the frames of a table

-- There is a frame for each row.
pub length-frames : (ls : List (List ℕ)) (t : List ℕ) → length (frames_of ls t) ≡ length t / columns
unfolding frames_of
length-frames ls t = length-map (range 0 (length t / columns)) (frame_at ls t) ∙ length-range 0 (length t / columns)

pub frame_row : (ls : List (List ℕ)) (t : List ℕ) (i : ℕ) → i < length t / columns → row (frames_of ls t) i ≡ frame_at ls t i
unfolding frames_of
frame_row ls t i l = get_d-table (frame_at ls t) 0 (length t / columns) i no_frame l ∙ ap (frame_at ls t) (zero-add i)

-- No frame stands beyond the last row.
pub no_row : (ls : List (List ℕ)) (t : List ℕ) (i : ℕ) → length t / columns ≤ i → row (frames_of ls t) i ≡ no_frame
no_row ls t i l = get_d_beyond (frames_of ls t) i no_frame (rw (length-frames ls t) l)

-- ---- a group's pattern is the same by any lengths

module _ (t : List ℕ) (j : ℕ) {B : Type 0} (F : List Frame → B) (step : ℕ → B → B) (more : (g : Frame) (gs : List Frame) → F (g ∷ gs) ≡ step g.period (F gs)) where
  -- what a row's frame adds to a fold over the group's frames that looks at their periods
  abbrev added : ℕ → B → B
  added i b = cond (eqb (field t i group_column) j) (step (field t i period_column) b) b

  fold_more : (ls : List (List ℕ)) (i : ℕ) (is : List ℕ) → F (of_group (map (frame_at ls t) (i ∷ is)) j) ≡ added i (F (of_group (map (frame_at ls t) is) j))
  unfolding of_group frame_at
  fold_more ls i is = fold-keep F (λ g. step g.period) more (λ g. eqb g.group j) (frame_at ls t i) (map (frame_at ls t) is)

  fold_same : (ls : List (List ℕ)) (is : List ℕ) → F (of_group (map (frame_at ls t) is) j) ≡ F (of_group (map (frame_at [] t) is) j)
  unfolding of_group keep
  fold_same ls [] = refl
  fold_same ls (i ∷ is) = fold_more ls i is ∙ ap (added i) (fold_same ls is) ∙ sym (fold_more [] i is)

module _ (ls : List (List ℕ)) (t : List ℕ) (j : ℕ) where
  pub hyper-same : hyperperiod (of_group (frames_of ls t) j) ≡ hyperperiod (of_group (unmeasured t) j)
  unfolding frames_of
  hyper-same = fold_same t j hyperperiod lcm (λ g gs. unfold hyperperiod lcm_of in refl) ls (range 0 (length t / columns))

  pub releases-same : pattern_releases (of_group (frames_of ls t) j) ≡ pattern_releases (of_group (unmeasured t) j)
  unfolding frames_of pattern_releases
  releases-same =
      let h = hyperperiod (of_group (unmeasured t) j) in
      ap (λ n. sum (λ g. n / g.period) (of_group (frames_of ls t) j)) hyper-same
      ∙ fold_same t j (sum (λ g. h / g.period)) (λ p s. h / p + s) (λ g gs. unfold sum in refl) ls (range 0 (length t / columns))

-- ---- no frame stands twice

-- A line that passed has another kind or identifier than each earlier one.
line-differs : (t : List ℕ) (i m : ℕ) → line_check t i ≡ Ok tt → m < i → field t m identifier_column ≡ field t i identifier_column → field t m kind_column ≡ field t i kind_column → ⊥
unfolding line_check stands_earlier is_same_frame
line-differs t i m e l p q =
    let same : is_same_frame t i m ≡ true = rw (eq-eqb _ _ p, eq-eqb _ _ q) in
    by-test (stands_earlier t i)
    (λ s. not-passed {cause = Duplicate} {place = i + 1} (simp s at (first-passed (columns_check t i) _ e).1))
    (λ s. subst T s (exists-mem (is_same_frame t i) (mem-range 0 i m (omega arith) (omega arith)) (rw same tt)))

-- Where lengths and rows pass, both do.
pub loaded-both : (ls : List (List ℕ)) (rows : List ℕ) → loaded_check ls rows ≡ Ok tt → Loadable ls × Accepted rows
unfolding loaded_check
loaded-both ls rows e = first-passed (lengths_check ls) (rows_check rows) e

-- A line that passed has the group of each earlier line of its node.
line-group : (t : List ℕ) (i m : ℕ) → line_check t i ≡ Ok tt → m < i → field t m node_column ≡ field t i node_column → field t m group_column ≡ field t i group_column
unfolding line_check has_second_group is_other_group
line-group t i m e l p =
    let late = (first-passed (columns_check t i) _ e).1 in
    by-test (eqb (field t m group_column) (field t i group_column)) (λ s. eqb-true _ _ s)
    (λ s. let other : is_other_group t i m ≡ true = rw (eq-eqb _ _ p, s) in
    by-test (stands_earlier t i) (λ a. not-passed {cause = Duplicate} {place = i + 1} (simp a at late))
    (λ a. by-test (has_second_group t i) (λ b. not-passed {cause = SecondGroup} {place = i + 1} (simp (a, b) at late))
    (λ b. absurd (subst T b (exists-mem (is_other_group t i) (mem-range 0 i m (omega arith) (omega arith)) (rw other tt))))))

module _ (rows : List ℕ) (accepted : Accepted rows) where
  table-passed : table_check rows ≡ Ok tt
  unfolding rows_check
  table-passed = (first-passed (rows_size_check (length rows)) (table_check rows) accepted).1

  -- There are 1 to 64 rows, and no number besides.
  pub accepted-size : RowsSize (length rows)
  unfolding rows_check
  accepted-size = rows-size (length rows) (first-passed (rows_size_check (length rows)) (table_check rows) accepted).0

  lines-passed : lines_check rows ≡ Ok tt
  unfolding table_check
  lines-passed = (first-passed (lines_check rows) (groups_check (unmeasured rows)) table-passed).0

  -- The numbers of each row are within their limits.
  pub accepted-limits : (i : ℕ) → i < length rows / columns → Limits rows i
  accepted-limits = lines-each rows lines-passed

  pub accepted-periods : Periods rows
  accepted-periods = lines-periods rows lines-passed

  line-passed : (i : ℕ) → i < length rows / columns → line_check rows i ≡ Ok tt
  unfolding lines_check
  line-passed i l = rw zero-add at (first-each (line_check rows) (length rows / columns) 0 lines-passed i l)

  -- A node stands in one group.
  pub accepted-group : (i m : ℕ) → i < length rows / columns → m < length rows / columns → field rows m node_column ≡ field rows i node_column
      → field rows m group_column ≡ field rows i group_column
  accepted-group i m h l same =
      elim (ℕ_discrete m i) [
        | yes is ↦ ap (λ (x : ℕ). field rows x group_column) is
        | no ne ↦ elim (dec_lt m i) [
          | yes before ↦ line-group rows i m (line-passed i h) before same
          | no after ↦ sym (line-group rows m i (line-passed m l) (omega arith) (sym same))
        ]
      ]

  -- ---- patterns

  group-passed : (j : ℕ) → 1 ≤ j → j ≤ 16 → group_check (unmeasured rows) j ≡ Ok tt
  unfolding table_check groups_check
  group-passed j low high =
      let z : 1 + (j - 1) ≡ j = omega arith in
      rw z at (first-each (group_check (unmeasured rows)) 16 1 (first-passed (lines_check rows) (groups_check (unmeasured rows)) table-passed).1 (j - 1) (omega arith))

  pattern-limits : (j : ℕ) → 1 ≤ j → j ≤ 16 → (hyperperiod (of_group (unmeasured rows) j) ≤ 1000000) × (pattern_releases (of_group (unmeasured rows) j) ≤ 256)
  unfolding group_check
  pattern-limits j low high =
      let e = group-passed j low high in
      let gs : List Frame = of_group (unmeasured rows) j in
      by-test (ltb 1000000 (hyperperiod gs)) (λ h. not-passed {cause = Hyperperiod} {place = j} (simp h at e))
      (λ h. by-test (ltb 256 (pattern_releases gs)) (λ r. not-passed {cause = Releases} {place = j} (simp (h, r) at e))
      (λ r. (ltb-false _ _ h, ltb-false _ _ r)))

  -- Each group's pattern is within its limits, whatever the lengths are.
  pub accepted-pattern : (ls : List (List ℕ)) (j : ℕ) → 1 ≤ j → j ≤ 16 → (hyperperiod (of_group (frames_of ls rows) j) ≤ 1000000) × (pattern_releases (of_group (frames_of ls rows) j) ≤ 256)
  accepted-pattern ls j low high = rw (hyper-same ls rows j, releases-same ls rows j) (pattern-limits j low high)

  -- ---- the frames are valid

  module _ (ls : List (List ℕ)) (loadable : Loadable ls) where
    valid-frame : (i : ℕ) → i < length rows / columns → ValidFrame (frame_at ls rows i)
    unfolding frame_at
    valid-frame i l =
        let m = accepted-limits i l in
        let c = length-bounds ls loadable (field rows i kind_column) (field rows i payload_column) m.payload-max in
        record { period = m.period-min; length = omega (arith, c.0); group-low = m.group-min; group-high = m.group-max }

    no-duplicate : (i j : ℕ) → i < j → j < length rows / columns → (frame_at ls rows i).priority ≡ (frame_at ls rows j).priority → ⊥
    unfolding frame_at
    no-duplicate i j l h e =
        let p = priority-same _ _ _ _ (accepted-limits i (omega arith)).identified (accepted-limits j h).identified e in
        line-differs rows j i (line-passed j h) l p.1 p.0

    pub accepted-valid : Valid (frames_of ls rows)
    accepted-valid = record { frame = frame; distinct = distinct }
      where
        frame : (i : ℕ) → i < length (frames_of ls rows) → ValidFrame (row (frames_of ls rows) i)
        frame i l =
            let h : i < length rows / columns = rw (length-frames ls rows) at l in
            rw (frame_row ls rows i h) (valid-frame i h)

        distinct : (i j : ℕ) → i < length (frames_of ls rows) → j < length (frames_of ls rows) → (row (frames_of ls rows) i).priority ≡ (row (frames_of ls rows) j).priority → i ≡ j
        distinct i j a b e =
            let a' : i < length rows / columns = rw (length-frames ls rows) at a in
            let b' : j < length rows / columns = rw (length-frames ls rows) at b in
            let same : (frame_at ls rows i).priority ≡ (frame_at ls rows j).priority = rw (frame_row ls rows i a', frame_row ls rows j b') at e in
            elim (ℕ_discrete i j) [
              | yes is ↦ is
              | no ne ↦ elim (dec_lt i j) [
                | yes l ↦ absurd (no-duplicate i j l b' same)
                | no l ↦ absurd (no-duplicate j i (omega arith) a' (sym same))
              ]
            ]
