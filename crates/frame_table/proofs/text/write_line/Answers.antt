use Prim.Native.Nat.{ℕ, ◌+◌, ◌-◌, ◌≤◌, ◌<◌}
use mathlib.Core.Path.{◌≡◌, refl, sym, ap, ◌∙◌}
use mathlib.Core.List.{List, [], ◌++◌, append-nil}
use native.Mathlib.Omega.{arith}
use borrow.Author.Rules.{rules}
use borrow.Rule.Slice.PartMut.{mid_of, mid_len}
use lib.ListN.{length, take, drop, length-set, drop_of_length-le}
use Rattle.arith.specs.Laws.Overwriting.{over-part, over-element, over-all}
use Rattle.decimal.specs.Decimal.{write_column}
use Rattle.table_checks.specs.Columns.{field, start_of, width_of, columns, feed_at, line_length}
use Rattle.frame_table.specs.Text.{line_of}
use Rattle.frame_table.specs.Laws.Layout.{start-next, end-most, column-place, length-line, line-column, line-feed}
use Rattle.frame_table.proofs.text.write_line.Goals as goal
use Rattle.frame_table.proofs.text.write_line.Goals.{After-start-to}

-- the number in its column
written : (rows line col : List ℕ) (i j v from to : ℕ) → j < columns → from ≡ start_of j → to ≡ start_of (j + 1) → length line ≡ line_length → v ≡ field rows i j
    → col ≡ write_column (length (mid_of from (to - from) line)) v → col ≡ take (width_of j) (drop (start_of j) (line_of rows i))
written rows line col i j v from to l p q n e is =
    let place = column-place j from to l p q in
    let wide : to - from ≡ width_of j = omega (arith, place) in
    rw (is, mid_len from to line (omega (arith, place)), wide, e) (sym (rw append-nil at (line-column rows i [] j l)))

-- the column's place in the line
place : (c : After-start-to) → (c.start-from.result + width_of c.loop-j.j ≡ c.start-to.result) × (c.start-to.result ≤ feed_at)
place c = column-place _ _ _ c.loop-j-test.true c.start-from.ensures c.start-to.ensures

pub loop-j-init : goal.loop-j-init
unfolding start_of
loop-j-init c = (refl, c.requires.1)

pub slice_bounds-write-count : goal.slice_bounds-write-count
slice_bounds-write-count c = omega (arith, place (goal.at.slice_bounds-write-count c).After-start-to)

pub slice_bounds-write-start : goal.slice_bounds-write-start
slice_bounds-write-start c = omega (arith, place (goal.at.slice_bounds-write-start c).After-start-to)

pub slice_bounds-write-end : goal.slice_bounds-write-end
slice_bounds-write-end c = omega (arith, place (goal.at.slice_bounds-write-end c).After-start-to)

pub loop-j-preserved : goal.loop-j-preserved
loop-j-preserved c =
    let j = c.loop-j.j in
    let below = c.loop-j-test.true in
    let from = c.start-from.ensures in
    let to = c.start-to.ensures in (
      over-part _ _ _ line_length (length-line _ _) _ (start_of j) (start_of (j + 1)) (width_of j) _ _ c.loop-j.invariant.0 from to (sym (start-next j below)) (omega (arith, end-most j below))
          (written _ _ _ _ j _ _ _ below from to c.loop-j.invariant.1 c.from-value.ensures c.write.ensures),
      search rules,
    )

pub shape_of-line : goal.shape_of-line
shape_of-line c = simp length-set (c.loop-j.invariant.1 ∙ sym c.requires.1)

pub returns : goal.returns
unfolding start_of
returns c =
    let rows : List ℕ = c.args.rows.now in
    let line : List ℕ = c.args.line.now in
    let i = c.args.i in
    let z : c.loop-j.j ≡ columns = omega (arith, c.loop-j.invariant, c.loop-j-test.false) in
    let fed = over-element (line_of rows i) line _ line_length (length-line rows i) feed_at 10 (rw z at c.loop-j.invariant.0) (omega arith) (omega (arith, c.requires.1)) (sym (rw append-nil at (line-feed rows i []))) in
    over-all (line_of rows i) line _ line_length (length-line rows i) line_length fed (omega arith) (omega arith)
    ∙ ap (λ (x : List ℕ). line_of rows i ++ x) (drop_of_length-le line {i = line_length} (omega (arith, c.requires.1))) ∙ append-nil (line_of rows i)
