-- After i turns the first i lines are written, and the rest is as it was.
use Prim.Native.Nat.{◌*◌, ◌≤◌}
use mathlib.Core.Path.{◌≡◌}
use lib.ListN.{length}
use Rattle.arith.specs.Laws.Overwriting.{over}
use Rattle.decimal.specs.Numbered.{numbered_lines}
use Rattle.decimal.proofs.numbered.write_numbered.Given as goal

abbrev pub invariant-loop-i : goal.invariant-loop-i
invariant-loop-i l = (l.out ≡ over (numbered_lines 8 l.values (length l.values) 0) (12 * l.i) l.initial.out) × (l.i ≤ length l.values) × (length l.out ≡ length l.initial.out)
