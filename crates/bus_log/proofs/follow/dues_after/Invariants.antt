-- `bus_log::follow::dues_after` meets its contract: after i turns the first i are written.
use mathlib.Core.Path.{◌≡◌}
use mathlib.Core.List.{map}
use lib.ListN.{length}
use Rattle.arith.specs.Lists.{range}
use Rattle.arith.specs.Laws.Overwriting.{over}
use Rattle.table_checks.specs.Frames.{frames_of}
use Rattle.bus_log.specs.Follow.{due_after}
use Rattle.bus_log.proofs.follow.dues_after.Given as goal

abbrev pub invariant-loop-i : goal.invariant-loop-i
invariant-loop-i l = (l.due ≡ over (map (due_after (frames_of l.lengths l.rows) l.p l.e) (range 0 64)) l.i l.initial.due) × (length l.due ≡ 64) × (length l.initial.due ≡ 64)
