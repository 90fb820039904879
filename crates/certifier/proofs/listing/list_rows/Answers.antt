-- The lines are written where they have room, and else the area is left.
use Rattle.std.specs.Prelude.{Ok}
use Prim.Native.Nat.{◌*◌}
use mathlib.Core.Path.{refl, sym, ap, ◌∙◌}
use borrow.Author.Rules.{rules}
use Rattle.arith.specs.Laws.Lines.{line-over, lines-over}
use Rattle.frame_table.specs.Laws.Areas.{area-short, area-written}
use Rattle.certifier.specs.Listing.{listing_of}
use Rattle.certifier.proofs.Laws.Listing.{listing-lines, length-listing}
use Rattle.certifier.proofs.listing.list_rows.Goals as goal

pub returns-then-out-lines : goal.returns-then-out-lines
returns-then-out-lines c =
    let a = c.args in
    let t = a.table.now in
    let answer = area-short (Ok tt) (listing_of a.faults t.lengths t.rows.now) a.out.now _ _ (length-listing a.faults t.lengths t.rows.now ∙ ap (λ n. 31 * n) (sym c.count-lines.ensures)) refl c.if-out-lines.true c.no_room.ensures in
    record { value = answer.0; out_after = answer.1 }

pub loop-i-preserved : goal.loop-i-preserved
loop-i-preserved c =
    let lines = listing-lines c.args.faults c.args.table.now.lengths c.args.table.now.rows.now in
    (line-over lines _ _ _ _ c.loop-i.invariant.0 _ c.loop-i-test.true c.write_row.ensures, search rules)

pub returns : goal.returns
unfolding listing_of
returns c =
    let a = c.args in
    let t = a.table.now in
    let lines = listing-lines a.faults t.lengths t.rows.now in
    let answer = area-written (Ok tt) (listing_of a.faults t.lengths t.rows.now) a.out.now _ _ (length-listing a.faults t.lengths t.rows.now ∙ ap (λ n. 31 * n) (sym c.count-lines.ensures)) refl c.if-out-lines.false
    (rw (← c.count-lines.ensures) (lines-over lines _ _ _ _ c.loop-i.invariant.0 c.loop-i.auto.i-end c.loop-i-test.false)) in
    record { value = answer.0; out_after = answer.1 }
