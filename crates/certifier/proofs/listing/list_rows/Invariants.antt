-- After i turns the first i lines are written, and the rest is as it was.
use Prim.Native.Nat.{◌*◌}
use mathlib.Core.Path.{◌≡◌}
use lib.ListN.{length}
use Rattle.arith.specs.Laws.Overwriting.{over}
use Rattle.certifier.specs.Listing.{lines_from}
use Rattle.certifier.proofs.listing.list_rows.Given as goal

abbrev pub invariant-loop-i : goal.invariant-loop-i
invariant-loop-i l = (l.out ≡ over (lines_from l.faults l.table.lengths l.table.rows.now l.lines 0) (31 * l.i) l.initial.out) × (length l.out ≡ length l.initial.out)
