-- The table as it is read, and the numbers of its rows as they are put there.
use Rattle.std.specs.Prelude.{◌≡◌, ℕ, ◌+◌, ◌*◌, ◌/◌, ◌<◌, ◌≤◌, List, length, drop, set, slice_index, slice_index_or, slice_set}
use Rattle.std.proofs.Math.Path.{ap}
use Rattle.std.proofs.Common.{◌∙◌, inl, inr, zero-add, length-set, get_or-set_same, get_or-set_other, below_more}
use native.Mathlib.Omega.{arith}
use Rattle.std.proofs.Math.ListN.{length-map}
use Rattle.std.proofs.Math.Seq.{get_or-drop}
use Rattle.arith.specs.Lists.{range}
use Rattle.arith.specs.Laws.Members.{length-range, get_d-table, get_d_beyond, map_same, of_range}
use Rattle.bus_model.specs.declared.Frame.{Frame}
use Rattle.bus_model.specs.Frame.{no_frame, row}
use Rattle.table_checks.specs.Columns.{columns, field, group_column, kind_column, identifier_column, payload_column, period_column, offset_column}
use Rattle.table_checks.specs.Frames.{priority_of, frame_at, frames_of}
use Rattle.table_checks.specs.Checks.{Loadable, Accepted}
use Rattle.table_checks.proofs.Laws.Lengths.{length-bounds}
use Rattle.table_checks.proofs.Laws.Limits.{identified-cases}
use Rattle.table_checks.proofs.Laws.Accepted.{length-frames, frame_row, accepted-size, accepted-limits, accepted-pattern, accepted-valid}
use Rattle.workload.specs.Prepared.{Fine, FineTable, frame_by, table_by, table_of}

-- ---- its rows

module _ (rows p : List ℕ) where
  pub length-table : length (table_of rows p) ≡ length rows / columns
  unfolding table_of table_by
  length-table = length-map (range 0 (length rows / columns)) (frame_by rows (drop 128 p)) ∙ length-range 0 (length rows / columns)

  pub table-row : (i : ℕ) → i < length rows / columns
      → row (table_of rows p) i
      ≡ record { group = field rows i group_column; priority = slice_index p (128 + 3 * i); length = slice_index p (128 + 3 * i + 1); period = field rows i period_column; offset = field rows i offset_column }
  unfolding table_of table_by frame_by
  table-row i l =
      let next : 128 + (3 * i + 1) ≡ 128 + 3 * i + 1 = omega arith in
      get_d-table (frame_by rows (drop 128 p)) 0 (length rows / columns) i no_frame l ∙ ap (frame_by rows (drop 128 p)) (zero-add i)
      ∙ rw (get_or-drop 128 p (3 * i) 0, get_or-drop 128 p (3 * i + 1) 0, next)

  -- None stands beyond the last.
  pub table_none : (i : ℕ) → length rows / columns ≤ i → row (table_of rows p) i ≡ no_frame
  table_none i l = get_d_beyond (table_of rows p) i no_frame (rw length-table l)

-- ---- an accepted table

-- Priorities are numbers of 32 bits.
pub priority-short : (ls : List (List ℕ)) (rows : List ℕ) → Accepted rows → (i : ℕ) → i < length rows / columns → (frame_at ls rows i).priority < 4294967296
unfolding frame_at priority_of
priority-short ls rows accepted i l =
    let m = accepted-limits rows accepted i l in
    elim (identified-cases (field rows i kind_column) (field rows i identifier_column) m.identified) [
      | inl a ↦ rw a.0 (omega (arith, a.1))
      | inr a ↦ rw a.0 (omega (arith, a.1))
    ]

module _ (ls : List (List ℕ)) (loadable : Loadable ls) (rows : List ℕ) (accepted : Accepted rows) where
  row_fine : (i : ℕ) → i < length rows / columns → Fine (frame_at ls rows i)
  unfolding frame_at
  row_fine i l =
      let m = accepted-limits rows accepted i l in
      let c = length-bounds ls loadable (field rows i kind_column) (field rows i payload_column) m.payload-max in
      record {
        group-low = m.group-min;
        group-high = m.group-max;
        priority-high = priority-short ls rows accepted i l;
        length-low = omega (arith, c.0);
        length_high = omega (arith, c.1);
        period-low = m.period-min;
        period-high = m.period-max;
      }

  -- It is within the limits.
  pub accepted-fine : FineTable (frames_of ls rows)
  accepted-fine = record {
    few = omega (arith, length-frames ls rows, (accepted-size rows accepted).most);
    valid = accepted-valid rows accepted ls loadable;
    fine = λ i l. let h : i < length rows / columns = omega (arith, length-frames ls rows) in rw (frame_row ls rows i h) (row_fine i h);
    hyper = λ j low high. (accepted-pattern rows accepted ls j low high).0;
  }

-- ---- its numbers, put there row by row

module _ (ls : List (List ℕ)) (rows : List ℕ) where
  -- what stands at a row's place: priority and length of its frame
  pub record Stands (area : List ℕ) (i : ℕ) : Type 0 where
    pub priority : slice_index_or area (3 * i) 0 ≡ (row (frames_of ls rows) i).priority
    pub length : slice_index_or area (3 * i + 1) 0 ≡ (row (frames_of ls rows) i).length

  -- those of the first rows do
  pub record FilledTo (area : List ℕ) (i : ℕ) : Type 0 where
    pub size : length area ≡ 192
    pub each : (m : ℕ) → m < i → Stands area m

module _ {ls : List (List ℕ)} {rows : List ℕ} where
  -- One row more is filled in.
  pub filled_more : {area : List ℕ} {i : ℕ} → FilledTo ls rows area i → i < 64 → {g : Frame} → g ≡ row (frames_of ls rows) i → (v : ℕ)
      → FilledTo ls rows (slice_set (slice_set (slice_set area (3 * i) g.priority) (3 * i + 1) g.length) (3 * i + 2) v) (i + 1)
  filled_more {area} {i} f less {g} is v =
      let one = set area (3 * i) g.priority in
      let two = set one (3 * i + 1) g.length in
      let size-one : length one ≡ 192 = length-set area (3 * i) g.priority ∙ f.size in
      let size-two : length two ≡ 192 = length-set one (3 * i + 1) g.length ∙ size-one in
      record {
        size = length-set two (3 * i + 2) v ∙ size-two;
        each = below_more _ _
            (λ m l. let s = f.each m l in record {
              priority = get_or-set_other two (3 * i + 2) (3 * m) v 0 (omega arith) ∙ get_or-set_other one (3 * i + 1) (3 * m) g.length 0 (omega arith) ∙ get_or-set_other area (3 * i) (3 * m) g.priority 0 (omega arith) ∙ s.priority;
              length = get_or-set_other two (3 * i + 2) (3 * m + 1) v 0 (omega arith) ∙ get_or-set_other one (3 * i + 1) (3 * m + 1) g.length 0 (omega arith) ∙ get_or-set_other area (3 * i) (3 * m + 1) g.priority 0 (omega arith) ∙ s.length;
            })
            (record {
              priority = get_or-set_other two (3 * i + 2) (3 * i) v 0 (omega arith) ∙ get_or-set_other one (3 * i + 1) (3 * i) g.length 0 (omega arith) ∙ get_or-set_same area (3 * i) g.priority 0 (omega (arith, f.size)) ∙ ap (λ (x : Frame). x.priority) is;
              length = get_or-set_other two (3 * i + 2) (3 * i + 1) v 0 (omega arith) ∙ get_or-set_same one (3 * i + 1) g.length 0 (omega arith) ∙ ap (λ (x : Frame). x.length) is;
            });
      }

  -- At the end the table is the accepted one.
  pub filled-all : {area : List ℕ} {i : ℕ} → FilledTo ls rows area i → length rows / columns ≤ i → table_by rows area ≡ frames_of ls rows
  unfolding table_by frames_of frame_by frame_at
  filled-all {area} {i} f over =
      map_same (range 0 (length rows / columns)) (λ m l.
      let (low, high) = of_range 0 (length rows / columns) l in
      let inside : m < length rows / columns = omega arith in
      let s = f.each m (omega arith) in
      rw (s.priority, s.length, frame_row ls rows m inside))
