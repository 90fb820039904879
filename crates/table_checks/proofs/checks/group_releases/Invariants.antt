-- `table_checks::checks::group_releases` meets its contract: the invariant has the sum over the rows read.
use Prim.Native.Nat.{◌-◌, ◌*◌, ◌/◌, ◌≤◌}
use lib.ListN.{length}
use Rattle.table_checks.specs.Columns.{columns}
use Rattle.table_checks.proofs.ChecksLaws.{Rows, releases_of}
use Rattle.table_checks.proofs.checks.group_releases.Given as goal

abbrev pub invariant-loop-i : goal.invariant-loop-i
invariant-loop-i l = Rows (releases_of l.h l.group) l.t l.sum l.i × (l.sum ≤ 1000000 * (length l.t / columns - l.i))
