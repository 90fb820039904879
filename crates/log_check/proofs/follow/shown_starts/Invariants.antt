-- `log_check::shown_starts` meets its contract: after i turns the first i are written.
use Prim.Native.Nat.{◌+◌}
use mathlib.Core.Path.{◌≡◌}
use mathlib.Core.List.{map}
use lib.ListN.{length}
use Rattle.arith.specs.Lists.{range}
use Rattle.arith.specs.Laws.Overwriting.{over}
use Rattle.bus_log.specs.Follow.{start_shown}
use Rattle.log_check.proofs.follow.shown_starts.Given as goal

abbrev pub invariant-loop-i : goal.invariant-loop-i
invariant-loop-i l = (l.starts ≡ over (map (λ j. start_shown l.p (j + 1)) (range 0 16)) l.i l.initial.starts) × (length l.starts ≡ 16) × (length l.initial.starts ≡ 16)
