-- What holds of every load sheet:
--     dividend-back             quotient × divisor + remainder is the dividend
--     remainder-below           the remainder is below the divisor
--     listed, of-listed         the nodes of the sheet are those that have frames
--     divisor-group             the divisor is the hyperperiod of the group in which the node stands, on whichever row
--     line_reads, last-reads    every number fits its column: reading the columns of a line gives its node's numbers back, and
--                               those of the last line the number of lines and the greatest quotient
--     most-above, most-met      which is that of a line, and no line's is greater
use Prim.Native.Nat.{ℕ, zero, suc, ◌+◌, ◌-◌, ◌*◌, ◌/◌, ◌^◌, ◌≤◌, ◌<◌}
use Rattle.std.specs.Prelude.{◌≡◌, refl, get_or, take, drop, Some}
use mathlib.Core.List.{List, [], ◌∷◌, ◌++◌, map, append_assoc, Memᴰ as Mem}
use Rattle.std.proofs.Math.Nat.{div-add-mod, div-le_of_le-mul, mod-lt, mul-le-mul, mul-le-mul_left}
use Rattle.std.proofs.Common.{div-le_self, length-append, take_at, drop_at, drop-drop}
use Rattle.std.proofs.Math.Decide.{dec_lt}
use native.Mathlib.Omega.{arith}
use Rattle.std.proofs.Math.Dec.{eqb_refl}
use Rattle.std.proofs.Math.ListN.{length, length-map}
use Rattle.arith.specs.Lists.{keep, range}
use Rattle.arith.specs.Laws.Members.{mem-keep, of-keep, length-keep, length-range, exists-mem, mem-get_d, mem-range, of_range, of_map}
use Rattle.arith.specs.Laws.Sums.{sum_bound, le-greatest, greatest-le, greatest-exceeds}
use Rattle.decimal.specs.Decimal.{read_column, write_column}
use Rattle.decimal.specs.Laws.{length-write, read-write}
use Rattle.bus_model.specs.declared.Frame.{Frame}
use Rattle.bus_model.specs.Pattern.{of_group, hyperperiod}
use Rattle.table_checks.specs.Columns.{field, columns, node_column, group_column}
use Rattle.table_checks.specs.Frames.{frame_at, frames_of}
use Rattle.table_checks.specs.Checks.{Loadable, Accepted}
use Rattle.table_checks.proofs.Laws.Accepted.{accepted-size, accepted-limits}
use Rattle.load_sheet.specs.declared.Load.{Load}
use Rattle.load_sheet.specs.Load.{work_in, dividend, load_of}
use Rattle.load_sheet.specs.Sheet.{is_of, has_frames, nodes_of, rows_of, node_frames, group_of, node_load, node_line, lines_of, last_line, greatest_quotient, sheet_with, sheet_of}
use Rattle.load_sheet.proofs.Laws.Loads.{frame-limits, is_true, first-row, group-is, divisor-limits}
use Rattle.load_sheet.proofs.Laws.Lines.{length-node-line, length-lines, length-sheet}

-- ---- the division

pub dividend-back : (h : ℕ) (gs : List Frame) → (load_of h gs).quotient * (load_of h gs).divisor + (load_of h gs).remainder ≡ dividend h gs
unfolding load_of
dividend-back h gs = omega (arith, div-add-mod (dividend h gs) h)

-- ---- columns

-- A number that fits is read back from behind what stands before it.
column-reads : (before after : List ℕ) (k w n : ℕ) → length before ≡ k → 0 < w → n < 10 ^ w → n < 1_000_000_000_000_000_000
    → read_column (take w (drop k (before ++ (write_column w n ++ after)))) ≡ Some n
column-reads before after k w n size some fits small =
    rw (drop_at before (write_column w n ++ after) k size, take_at (write_column w n) after w (length-write w n)) (read-write w n some fits small)

-- what the columns of a line say: a node and its load
pub record LineReads (line : List ℕ) (j : ℕ) (l : Load) : Type 0 where
  pub node : read_column (take 3 line) ≡ Some j
  pub quotient : read_column (take 10 (drop 3 line)) ≡ Some l.quotient
  pub remainder : read_column (take 8 (drop 13 line)) ≡ Some l.remainder
  pub divisor : read_column (take 8 (drop 21 line)) ≡ Some l.divisor

node-reads : (j : ℕ) (l : Load) → j ≤ 16 → l.quotient ≤ 256000000 → l.remainder < 1000000 → l.divisor ≤ 1000000 → LineReads (node_line j l) j l
unfolding node_line
node-reads j l node quotient remainder divisor =
    let a : List ℕ = write_column 3 j in
    let b : List ℕ = write_column 10 l.quotient in
    let c : List ℕ = write_column 8 l.remainder in
    let d : List ℕ = write_column 8 l.divisor ++ (10 ∷ []) in
    let ab : length (a ++ b) ≡ 13 = simp (length-append, length-write) in
    let abc : length (a ++ b ++ c) ≡ 21 = simp (length-append, length-write) in
    record {
      node = column-reads [] _ 0 3 j refl (omega arith) (omega arith) (omega arith);
      quotient = column-reads a _ 3 10 l.quotient (length-write 3 j) (omega arith) (omega arith) (omega arith);
      remainder = rw (← append_assoc a b (c ++ d)) (column-reads (a ++ b) d 13 8 l.remainder ab (omega arith) (omega arith) (omega arith));
      divisor = rw (← append_assoc a b (c ++ d), ← append_assoc (a ++ b) c d) (column-reads (a ++ b ++ c) (10 ∷ []) 21 8 l.divisor abc (omega arith) (omega arith) (omega arith));
    }

-- what those of a last line say: how many nodes, and their greatest quotient
pub record LastReads (line : List ℕ) (count most : ℕ) : Type 0 where
  pub nodes : read_column (take 3 line) ≡ Some count
  pub greatest : read_column (take 10 (drop 3 line)) ≡ Some most

end_reads : (count most : ℕ) → count ≤ 16 → most ≤ 256000000 → LastReads (last_line count most) count most
unfolding last_line
end_reads count most few small = record {
  nodes = column-reads [] _ 0 3 count refl (omega arith) (omega arith) (omega arith);
  greatest = column-reads (write_column 3 count) _ 3 10 most (length-write 3 count) (omega arith) (omega arith) (omega arith);
}

-- ---- places

-- Line i of the sheet is that of its node,
line-place : (load : ℕ → Load) (js rest : List ℕ) (i : ℕ) → i < length js
    → take 30 (drop (30 * i) (lines_of load js ++ rest)) ≡ node_line (get_or js i 0) (load (get_or js i 0))
unfolding lines_of
line-place load [] rest i l = absurd (omega arith)
line-place load (j ∷ js) rest zero l =
    let line : List ℕ = node_line j (load j) in
    rw (append_assoc line (lines_of load js) rest) (take_at line (lines_of load js ++ rest) 30 (length-node-line j _))
line-place load (j ∷ js) rest (suc i) l =
    let line : List ℕ = node_line j (load j) in
    let next : 30 * suc i ≡ 30 + 30 * i = omega arith in
    rw (next, append_assoc line (lines_of load js) rest, ← drop-drop (30 * i) 30 (line ++ (lines_of load js ++ rest)), drop_at line (lines_of load js ++ rest) 30 (length-node-line j _))
    (line-place load js rest i (omega arith))

sheet-line : (ls : List (List ℕ)) (rows : List ℕ) (i : ℕ) → i < length (nodes_of rows)
    → take 30 (drop (30 * i) (sheet_of ls rows)) ≡ node_line (get_or (nodes_of rows) i 0) (node_load ls rows (get_or (nodes_of rows) i 0))
unfolding sheet_of sheet_with
sheet-line ls rows i l = line-place (node_load ls rows) (nodes_of rows) _ i l

-- and behind them stands the last line, with their number.
sheet-last : (ls : List (List ℕ)) (rows : List ℕ) → drop (30 * length (nodes_of rows)) (sheet_of ls rows)
    ≡ last_line (length (nodes_of rows)) (greatest_quotient (node_load ls rows) (nodes_of rows))
unfolding sheet_of sheet_with
sheet-last ls rows = drop_at (lines_of (node_load ls rows) (nodes_of rows)) _ _ (length-lines (node_load ls rows) (nodes_of rows))

-- ---- how long it is

few-nodes : (rows : List ℕ) → length (nodes_of rows) ≤ 16
unfolding nodes_of range
few-nodes rows = length-keep (has_frames rows) (range 1 16)

-- A sheet has at most 494 characters.
pub sheet-most : (ls : List (List ℕ)) (rows : List ℕ) → length (sheet_of ls rows) ≤ 494
sheet-most ls rows = omega (arith, length-sheet ls rows (length (nodes_of rows)) refl, few-nodes rows)

-- ---- in an accepted table, by lengths that passed

module _ (ls : List (List ℕ)) (rows : List ℕ) (loadable : Loadable ls) (accepted : Accepted rows) where
  abbrev fs : List Frame
  fs = frames_of ls rows

  -- ---- the nodes that have frames

  -- The node of a row is listed,
  pub listed : (i : ℕ) → i < length rows / columns → Mem (field rows i node_column) (nodes_of rows)
  unfolding nodes_of has_frames is_of
  listed i l =
      let m = accepted-limits rows accepted i l in
      mem-keep (has_frames rows) (mem-range 1 16 (field rows i node_column) m.node-min (omega (arith, m.node-max)))
      (exists-mem (is_of rows (field rows i node_column)) (mem-range 0 (length rows / columns) i (omega arith) (omega arith)) (eqb_refl (field rows i node_column)))

  -- and a node that is listed has a row.
  pub of-listed : {j : ℕ} → Mem j (nodes_of rows) → (1 ≤ j) × (j ≤ 16) × ((i : ℕ) × (i < length rows / columns) × (field rows i node_column ≡ j))
  unfolding nodes_of
  of-listed {j} m =
      let (n, t) = of-keep (has_frames rows) (range 1 16) m in
      let (low, high) = of_range 1 16 n in
      let (i, l, node, group) = first-row rows j (is_true (has_frames rows j) t) in
      (low, omega arith, (i, l, node))

  -- ---- a node's load

  -- The divisor is the hyperperiod of the group that stands beside the node in each of its rows.
  pub divisor-group : (i : ℕ) → i < length rows / columns → (node_load ls rows (field rows i node_column)).divisor ≡ hyperperiod (of_group fs (field rows i group_column))
  unfolding node_load load_of
  divisor-group i l = rw (group-is rows accepted i l)

  work-most : (h j : ℕ) → work_in h (node_frames ls rows j) ≤ 400 * h * 64
  unfolding work_in node_frames rows_of
  work-most h j =
      let n : ℕ = length rows / columns in
      let few : length (node_frames ls rows j) ≤ 64
      = omega (arith, length-map (rows_of rows j) (frame_at ls rows), length-keep (is_of rows j) (range 0 n), length-range 0 n, (accepted-size rows accepted).most) in
      omega (arith, sum_bound (λ g. g.length * (h / g.period)) (400 * h) (node_frames ls rows j) term, mul-le-mul_left (400 * h) few)
    where
      term : (g : Frame) → Mem g (map (frame_at ls rows) (keep (is_of rows j) (range 0 (length rows / columns)))) → g.length * (h / g.period) ≤ 400 * h
      term g m =
          let (i, k, e) = of_map (frame_at ls rows) (rows_of rows j) m in
          let (low, high) = of_range 0 (length rows / columns) (of-keep (is_of rows j) (range 0 (length rows / columns)) k).0 in
          let short : g.length ≤ 400 = rw e (frame-limits ls rows loadable accepted i (omega arith)).1 in
          mul-le-mul short (div-le_self h g.period)

  module _ {j : ℕ} (node : Mem j (nodes_of rows)) where
    abbrev cycle : ℕ
    cycle = hyperperiod (of_group fs (group_of rows j))

    divisor-is : (1 ≤ cycle) × (cycle ≤ 1000000)
    unfolding nodes_of
    divisor-is = divisor-limits rows accepted ls loadable j (is_true (has_frames rows j) (of-keep (has_frames rows) (range 1 16) node).1)

    pub remainder-below : (node_load ls rows j).remainder < (node_load ls rows j).divisor
    unfolding node_load load_of
    remainder-below = mod-lt (dividend cycle (node_frames ls rows j)) divisor-is.0

    quotient-most : (node_load ls rows j).quotient ≤ 256000000
    unfolding node_load load_of dividend
    quotient-most = div-le_of_le-mul cycle (omega (arith, work-most cycle j))

    load-reads : LineReads (node_line j (node_load ls rows j)) j (node_load ls rows j)
    load-reads =
        let (low, high, g) = of-listed node in
        let divisor : (node_load ls rows j).divisor ≤ 1000000 = unfold node_load load_of in divisor-is.1 in
        node-reads j (node_load ls rows j) high quotient-most (omega (arith, remainder-below)) divisor

    pub most-above : (node_load ls rows j).quotient ≤ greatest_quotient (node_load ls rows) (nodes_of rows)
    unfolding greatest_quotient
    most-above = le-greatest (λ i. (node_load ls rows i).quotient) node

  pub most-met : (j : ℕ) × Mem j (nodes_of rows) × ((node_load ls rows j).quotient ≡ greatest_quotient (node_load ls rows) (nodes_of rows))
  unfolding greatest_quotient
  most-met =
      let first = listed 0 (omega (arith, (accepted-size rows accepted).some, (accepted-size rows accepted).whole)) in
      elim (dec_lt 0 (greatest_quotient (node_load ls rows) (nodes_of rows))) [
        | yes more ↦
            let (j, m, exceeds) = greatest-exceeds (λ i. (node_load ls rows i).quotient) (greatest_quotient (node_load ls rows) (nodes_of rows) - 1) (nodes_of rows) (omega arith) in
            (j, m, omega (arith, exceeds, most-above m))
        | no none ↦ (field rows 0 node_column, first, omega (arith, none, most-above first))
      ]

  -- ---- the lines, and the last line

  pub line_reads : (i : ℕ) → i < length (nodes_of rows) → LineReads (take 30 (drop (30 * i) (sheet_of ls rows))) (get_or (nodes_of rows) i 0) (node_load ls rows (get_or (nodes_of rows) i 0))
  line_reads i l = rw (sheet-line ls rows i l) (load-reads (mem-get_d (nodes_of rows) i 0 l))

  pub last-reads : LastReads (drop (30 * length (nodes_of rows)) (sheet_of ls rows)) (length (nodes_of rows)) (greatest_quotient (node_load ls rows) (nodes_of rows))
  unfolding greatest_quotient
  last-reads = rw (sheet-last ls rows) (end_reads _ _ (few-nodes rows) (greatest-le (nodes_of rows) (λ j m. quotient-most m)))
