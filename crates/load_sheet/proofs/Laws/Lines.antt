-- The lines of a sheet: how long they are, and how they are written one behind the other.
use Rattle.std.specs.Prelude.{ℕ, ◌+◌, ◌-◌, ◌*◌, ◌≤◌, ◌<◌, max, ◌≡◌, length, get_or, set, take, drop}
use Rattle.std.proofs.Math.Path.{refl}
use Rattle.std.proofs.Common.{sym, ap, subst, ◌∙◌, add-one, length-append, take_all, take-suc}
use mathlib.Core.List.{List, [], ◌∷◌, ◌++◌, append_assoc, append-nil, Memᴰ as Mem}
use native.Mathlib.Omega.{arith}
use borrow.Rule.Slice.PartMut.{mid_of, put_mid}
use Rattle.arith.specs.Lists.{greatest, range}
use Rattle.arith.specs.Laws.Members.{mem-get_d, of-keep}
use Rattle.arith.specs.Laws.Overwriting.{Begun, begun-none, begun-part, begun-filled, begun-element, begun_all}
use Rattle.decimal.specs.Decimal.{write_column}
use Rattle.decimal.specs.Laws.{length-write}
use Rattle.load_sheet.specs.declared.Load.{Load}
use Rattle.load_sheet.specs.Sheet.{has_frames, nodes_of, node_load, node_line, lines_of, last_line, greatest_quotient, sheet_with, sheet_of}
use Rattle.load_sheet.specs.Steps.{Nodes}
use Rattle.load_sheet.proofs.Laws.Loads.{is_true}

-- ---- lengths

pub length-node-line : (j : ℕ) (l : Load) → length (node_line j l) ≡ 30
unfolding node_line
length-node-line j l = simp (length-append, length-write)

pub length-last-line : (count most : ℕ) → length (last_line count most) ≡ 14
unfolding last_line
length-last-line count most = simp (length-append, length-write)

-- A line for each node.
pub length-lines : (load : ℕ → Load) (js : List ℕ) → length (lines_of load js) ≡ 30 * length js
unfolding lines_of
length-lines load [] = refl
length-lines load (j ∷ js) = length-append (node_line j (load j)) (lines_of load js) ∙ omega (arith, length-node-line j (load j), length-lines load js)

length-sheet-with : (load : ℕ → Load) (js : List ℕ) → length (sheet_with load js) ≡ 30 * length js + 14
unfolding sheet_with
length-sheet-with load js =
    length-append (lines_of load js) (last_line (length js) (greatest_quotient load js))
    ∙ omega (arith, length-lines load js, length-last-line (length js) (greatest_quotient load js))

-- ---- a line, column by column

pub line-written : (j : ℕ) (l : Load) (line a b c d : List ℕ) → length line ≡ 30
    → a ≡ write_column (length (mid_of 0 3 line)) j
    → b ≡ write_column (length (mid_of 3 10 (put_mid 0 3 line a))) l.quotient
    → c ≡ write_column (length (mid_of 13 8 (put_mid 3 10 (put_mid 0 3 line a) b))) l.remainder
    → d ≡ write_column (length (mid_of 21 8 (put_mid 13 8 (put_mid 3 10 (put_mid 0 3 line a) b) c))) l.divisor
    → set (put_mid 21 8 (put_mid 13 8 (put_mid 3 10 (put_mid 0 3 line a) b) c) d) 29 10 ≡ node_line j l
unfolding node_line
line-written j l line a b c d size p q r s =
    let one = begun-filled _ line _ 0 (begun-none line) (λ w. write_column w j) (λ w. length-write w j) a 3 (omega arith) p in
    let two = begun-filled _ line _ 3 one (λ w. write_column w l.quotient) (λ w. length-write w l.quotient) b 10 (omega arith) q in
    let three = begun-filled _ line _ 13 two (λ w. write_column w l.remainder) (λ w. length-write w l.remainder) c 8 (omega arith) r in
    let four = begun-filled _ line _ 21 three (λ w. write_column w l.divisor) (λ w. length-write w l.divisor) d 8 (omega arith) s in
    begun_all _ line _ 30 (begun-element _ line _ 29 four 10 (omega arith)) size ∙ simp append_assoc

pub last_written : (count most : ℕ) (line a b : List ℕ) → length line ≡ 14
    → a ≡ write_column (length (mid_of 0 3 line)) count
    → b ≡ write_column (length (mid_of 3 10 (put_mid 0 3 line a))) most
    → set (put_mid 3 10 (put_mid 0 3 line a) b) 13 10 ≡ last_line count most
unfolding last_line
last_written count most line a b size p q =
    let one = begun-filled _ line _ 0 (begun-none line) (λ w. write_column w count) (λ w. length-write w count) a 3 (omega arith) p in
    let two = begun-filled _ line _ 3 one (λ w. write_column w most) (λ w. length-write w most) b 10 (omega arith) q in
    begun_all _ line _ 14 (begun-element _ line _ 13 two 10 (omega arith)) size ∙ simp append_assoc

-- ---- the nodes that have frames

-- They are few, and have frames.
pub nodes-of : (rows js : List ℕ) → js ≡ nodes_of rows → length js ≤ 16 → Nodes rows js
unfolding nodes_of
nodes-of rows js is few = record {
  few = few;
  each = λ i l. is_true _ (of-keep (has_frames rows) (range 1 16) (subst (Mem (get_or js i 0)) is (mem-get_d js i 0 l))).1;
}

-- ---- the lines of the nodes, one behind the other

lines_more : (load : ℕ → Load) (js : List ℕ) (j : ℕ) → lines_of load (js ++ (j ∷ [])) ≡ lines_of load js ++ node_line j (load j)
unfolding lines_of
lines_more load [] j = append-nil (node_line j (load j))
lines_more load (i ∷ js) j =
    ap (λ (rest : List ℕ). node_line i (load i) ++ rest) (lines_more load js j)
    ∙ sym (append_assoc (node_line i (load i)) (lines_of load js) (node_line j (load j)))

most-more : (load : ℕ → Load) (js : List ℕ) (j : ℕ) → greatest_quotient load (js ++ (j ∷ [])) ≡ max (greatest_quotient load js) (load j).quotient
unfolding greatest_quotient greatest
most-more load [] j = omega arith
most-more load (i ∷ js) j = omega (arith, most-more load js j)

-- the lines of the first i nodes are written over `old`, and `most` is their greatest quotient
pub record Written (load : ℕ → Load) (js old out : List ℕ) (most i : ℕ) : Type 0 where
  pub inside : i ≤ length js
  pub begun : Begun (lines_of load (take i js)) old out (30 * i)
  pub most-is : most ≡ greatest_quotient load (take i js)

module _ (load : ℕ → Load) (js old : List ℕ) where
  pub written_none : Written load js old old 0 0
  unfolding lines_of greatest_quotient greatest
  written_none = record { inside = omega arith; begun = begun-none old; most-is = refl }

  module _ {out : List ℕ} {most i : ℕ} (w : Written load js old out most i) where
    -- A line more.
    pub written-more : (j : ℕ) (l : Load) (line : List ℕ) (next : ℕ) → i < length js → j ≡ get_or js i 0 → l ≡ load j → line ≡ node_line j l
        → next ≡ max most l.quotient → Written load js old (put_mid (30 * i) (30 * i + 30 - 30 * i) out line) next (i + 1)
    written-more j l line next less node loaded is more =
        let part : take (i + 1) js ≡ take i js ++ (j ∷ []) = rw (add-one i, node) (take-suc js i 0 less) in
        let width : 30 * i + 30 - 30 * i ≡ 30 = omega arith in
        let end : 30 * (i + 1) ≡ 30 * i + 30 = omega arith in
        record {
          inside = omega arith;
          begun = rw (part, width, end, lines_more load (take i js) j, is, loaded) (begun-part _ old out (30 * i) w.begun (node_line j (load j)) 30 (length-node-line j (load j)));
          most-is = rw (part, most-more load (take i js) j, more, loaded, w.most-is);
        }

    -- All lines.
    pub written_all : length js ≤ i → (most ≡ greatest_quotient load js) × (out ≡ lines_of load js ++ drop (30 * length js) old)
    written_all over =
        let e : i ≡ length js = omega (arith, w.inside) in
        let whole : take i js ≡ js = take_all i js over in
        (rw whole at w.most-is, rw (whole, e) at w.begun.is)

-- ---- the sheet

module _ (ls : List (List ℕ)) (rows : List ℕ) where
  abbrev all : List ℕ
  all = nodes_of rows

  pub length-sheet : (n : ℕ) → n ≡ length all → length (sheet_of ls rows) ≡ 30 * n + 14
  unfolding sheet_of
  length-sheet n count = length-sheet-with (node_load ls rows) all ∙ omega arith

  -- The last line behind the lines.
  pub sheet-written : (js old out last : List ℕ) (n most : ℕ) → js ≡ all → n ≡ length all
      → most ≡ greatest_quotient (node_load ls rows) js → out ≡ lines_of (node_load ls rows) js ++ drop (30 * length js) old → last ≡ last_line n most
      → put_mid (30 * n) (30 * n + 14 - 30 * n) out last ≡ sheet_of ls rows ++ drop (30 * n + 14) old
  unfolding sheet_of sheet_with
  sheet-written js old out last n most is count most-is lines last-is =
      let begun : Begun (lines_of (node_load ls rows) all) old out (30 * n) = record { count = length-lines (node_load ls rows) all ∙ omega arith; is = rw (is, ← count) at lines } in
      let width : 30 * n + 14 - 30 * n ≡ 14 = omega arith in
      rw (width, last-is, most-is, is) ((begun-part _ old out (30 * n) begun (last_line n (greatest_quotient (node_load ls rows) all)) 14 (length-last-line n _)).is ∙ rw count)
