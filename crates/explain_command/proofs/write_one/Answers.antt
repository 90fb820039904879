-- The line is written where it has room, and else the area is left.
use Rattle.std.specs.Prelude.{Ok}
use mathlib.Core.Path.{refl}
use Rattle.frame_table.specs.Laws.Areas.{area-short, area-written}
use Rattle.certifier.specs.Listing.{listing_line}
use Rattle.certifier.proofs.Laws.Listing.{length-line}
use Rattle.arith.specs.Laws.Overwriting.{begun-none, begun-part}
use Rattle.explain_command.proofs.write_one.Goals as goal

pub returns-then-out-lt-LINE : goal.returns-then-out-lt-LINE
returns-then-out-lt-LINE c = let answer = area-short (Ok tt) _ _ _ _ (length-line _ _) refl c.if-out-lt-LINE.true c.no_room.ensures in record { value = answer.0; out_after = answer.1 }

pub returns : goal.returns
returns c =
    let line = listing_line c.args.identifier c.args.judgement in
    let whole = (begun-part _ c.args.out.now _ 0 (begun-none c.args.out.now) line 31 (length-line c.args.identifier c.args.judgement)).is in
    let answer = area-written (Ok tt) line c.args.out.now 31 _ (length-line c.args.identifier c.args.judgement) refl c.if-out-lt-LINE.false (rw c.write_line.ensures whole) in record { value = answer.0; out_after = answer.1 }
