-- `table_checks::checks::lines` meets its contract: the invariant says that the lines left decide.
use Prim.Native.Nat.{◌-◌, ◌/◌}
use mathlib.Core.Path.{◌≡◌}
use lib.ListN.{length}
use Rattle.table_checks.specs.Columns.{columns}
use Rattle.table_checks.specs.Checks.{first_of, line_check, lines_check}
use Rattle.table_checks.proofs.checks.lines.Given as goal

abbrev pub invariant-loop-i : goal.invariant-loop-i
invariant-loop-i l = first_of (line_check l.t) (length l.t / columns - l.i) l.i ≡ lines_check l.t
