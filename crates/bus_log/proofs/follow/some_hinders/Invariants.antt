-- `bus_log::follow::some_hinders` meets its contract: the rows left decide.
use Prim.Native.Nat.{◌-◌}
use mathlib.Core.Path.{◌≡◌}
use lib.ListN.{length}
use Rattle.arith.specs.Lists.{exists, range}
use Rattle.bus_model.specs.Frame.{row}
use Rattle.table_checks.specs.Frames.{frames_of}
use Rattle.bus_log.specs.Follow.{due_of, hinders, row_hinders}
use Rattle.bus_log.proofs.follow.some_hinders.Given as goal

abbrev pub invariant-loop-i : goal.invariant-loop-i
invariant-loop-i l = exists (λ k. hinders l.p l.own l.e (row (frames_of l.lengths l.rows) k) (due_of l.p.due k)) (range l.i (l.n - l.i)) ≡ exists (row_hinders (frames_of l.lengths l.rows) l.p l.e) (range 0 (length (frames_of l.lengths l.rows)))
