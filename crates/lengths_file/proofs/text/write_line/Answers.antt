use Prim.Native.Nat.{ℕ, ◌+◌, ◌-◌, ◌*◌, ◌<◌}
use mathlib.Core.Path.{◌≡◌, refl, sym, ap, ◌∙◌}
use mathlib.Core.List.{List, [], ◌++◌, append-nil}
use native.Mathlib.Omega.{arith}
use borrow.Author.Rules.{rules}
use borrow.Rule.Slice.PartMut.{mid_of, mid_len}
use lib.ListN.{length, take, drop, length-set, drop_of_length-le}
use Rattle.arith.specs.Laws.Overwriting.{over-part, over-element, over-all}
use Rattle.decimal.specs.Decimal.{write_column}
use Rattle.table_checks.specs.Frames.{length_at}
use Rattle.lengths_file.specs.Lengths.{column_text, line_text}
use Rattle.lengths_file.proofs.Laws.Layout.{length-line, line-column, line-feed}
use Rattle.lengths_file.proofs.text.write_line.Goals as goal

-- the number in its column
written : (ls : List (List ℕ)) (k s v : ℕ) (line col : List ℕ) → s < 9 → length line ≡ 46 → v ≡ length_at ls k s
    → col ≡ write_column (length (mid_of (5 * s) (5 * s + 5 - 5 * s) line)) v → col ≡ take 5 (drop (5 * s) (line_text ls k))
unfolding column_text
written ls k s v line col l size e is =
    let wide : 5 * s + 5 - 5 * s ≡ 5 = omega arith in
    rw (is, mid_len (5 * s) (5 * s + 5) line (omega arith), wide, e) (sym (rw append-nil at (line-column ls k [] s l)))

pub loop-s-init : goal.loop-s-init
loop-s-init c = (refl, c.requires.1)

pub loop-s-preserved : goal.loop-s-preserved
loop-s-preserved c =
    let below = c.loop-s-test.true in
    let s = c.loop-s.s in (
      over-part _ _ _ 46 (length-line _ _) _ (5 * s) (5 * (s + 1)) 5 (5 * s) (5 * s + 5) c.loop-s.invariant.0 refl (omega arith) (omega arith) (omega arith)
          (written _ _ s _ _ _ below c.loop-s.invariant.1 c.from.ensures c.write.ensures),
      search rules,
    )

pub shape_of-line : goal.shape_of-line
shape_of-line c = simp length-set (c.loop-s.invariant.1 ∙ sym c.requires.1)

pub returns : goal.returns
returns c =
    let ls : List (List ℕ) = c.args.lengths in
    let k = c.args.k in
    let line : List ℕ = c.args.line.now in
    let z : c.loop-s.s ≡ 9 = omega (arith, c.loop-s.invariant, c.loop-s-test.false) in
    let fed = over-element (line_text ls k) line _ 46 (length-line ls k) 45 10 (rw z at c.loop-s.invariant.0) (omega arith) (omega (arith, c.requires.1)) (sym (rw append-nil at (line-feed ls k []))) in
    over-all (line_text ls k) line _ 46 (length-line ls k) 46 fed (omega arith) (omega arith)
    ∙ ap (λ (x : List ℕ). line_text ls k ++ x) (drop_of_length-le line {i = 46} (omega (arith, c.requires.1))) ∙ append-nil (line_text ls k)
