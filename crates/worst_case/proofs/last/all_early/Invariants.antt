-- The loop finds no late offset before the row at which it stands.
use Prim.Native.Nat.{◌/◌}
use mathlib.Core.Path.{◌≡◌}
use lib.ListN.{length}
use Rattle.table_checks.specs.Columns.{columns}
use Rattle.table_checks.specs.Table.{frames}
use Rattle.worst_case.specs.Laws.Last.{EarlyTo}
use Rattle.worst_case.proofs.last.all_early.Given as goal

abbrev pub invariant-loop-i : goal.invariant-loop-i
invariant-loop-i l = (l.lines ≡ length l.table.rows.now / columns) × EarlyTo (frames l.table) l.i
