-- `frame_table::narrow` meets its contract: after k turns the first k fields stand over the first k rows.
use mathlib.Core.Path.{◌≡◌}
use lib.ListN.{length}
use Rattle.arith.specs.Laws.Overwriting.{over}
use Rattle.frame_table.proofs.narrow.Given as goal

abbrev pub invariant-loop-k : goal.invariant-loop-k
invariant-loop-k l = (l.rows ≡ over l.fields l.k l.initial.rows) × (length l.rows ≡ length l.initial.rows)
