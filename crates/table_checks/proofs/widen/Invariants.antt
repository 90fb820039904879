-- `table_checks::widen` meets its contract: after k turns the first k rows stand over the first k fields.
use mathlib.Core.Path.{◌≡◌}
use lib.ListN.{length}
use Rattle.arith.specs.Laws.Overwriting.{over}
use Rattle.table_checks.proofs.widen.Given as goal

abbrev pub invariant-loop-k : goal.invariant-loop-k
invariant-loop-k l = (l.fields ≡ over l.rows l.k l.initial.fields) × (length l.fields ≡ length l.initial.fields)
