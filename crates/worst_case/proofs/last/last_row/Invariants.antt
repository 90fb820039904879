-- The loop keeps the row that ranks last of those before; after all rows it is the last.
use Prim.Native.Nat.{◌/◌}
use mathlib.Core.Path.{◌≡◌}
use lib.ListN.{length}
use Rattle.table_checks.specs.Table.{frames}
use Rattle.table_checks.specs.Columns.{columns}
use Rattle.worst_case.specs.Steps.{LastOf}
use Rattle.worst_case.proofs.last.last_row.Given as goal

abbrev pub invariant-loop-i : goal.invariant-loop-i
invariant-loop-i l = (l.lines ≡ length l.table.rows.now / columns) × LastOf (frames l.table) l.i l.last
