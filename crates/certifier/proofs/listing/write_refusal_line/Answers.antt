-- The two columns and the line feed are written where they have room, and else the area is left.
use Rattle.std.specs.Prelude.{Ok}
use mathlib.Core.Path.{refl}
use Rattle.frame_table.specs.Laws.Areas.{area-short, area-written}
use Rattle.certifier.specs.Listing.{refusal_line}
use Rattle.certifier.proofs.Laws.Listing.{length-refusal, refusal-written}
use Rattle.certifier.proofs.listing.write_refusal_line.Goals as goal

pub returns-then-out-lt-REFUSAL_LINE : goal.returns-then-out-lt-REFUSAL_LINE
returns-then-out-lt-REFUSAL_LINE c = let answer = area-short (Ok tt) _ _ _ _ (length-refusal _ _) refl c.if-out-lt-REFUSAL_LINE.true c.no_room.ensures in record { value = answer.0; out_after = answer.1 }

pub returns : goal.returns
returns c =
    let out = c.args.out.now in
    let number = c.args.number in
    let place = c.args.place in
    let answer = area-written (Ok tt) (refusal_line number place) out _ _ (length-refusal number place) refl c.if-out-lt-REFUSAL_LINE.false
    (refusal-written number _ place out _ _ c.if-out-lt-REFUSAL_LINE.false c.from.ensures c.write.ensures (rw c.from-2.ensures at c.write-2.ensures)) in record { value = answer.0; out_after = answer.1 }
