-- `table_checks::checks::columns` meets its contract: the invariant says that the columns left decide.
use Prim.Native.Nat.{◌-◌}
use mathlib.Core.Path.{◌≡◌}
use Rattle.table_checks.specs.Columns.{columns}
use Rattle.table_checks.specs.Checks.{first_of, column_check, columns_check}
use Rattle.table_checks.proofs.checks.columns.Given as goal

abbrev pub invariant-loop-j : goal.invariant-loop-j
invariant-loop-j l = first_of (column_check l.t l.i) (columns - l.j) l.j ≡ columns_check l.t l.i
