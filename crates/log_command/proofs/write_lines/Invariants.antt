-- `log_command::write_lines` meets its contract: after i turns the first i lines are written, and the rest is as it was.
use Prim.Native.Nat.{◌*◌}
use mathlib.Core.Path.{◌≡◌}
use lib.ListN.{length}
use Rattle.arith.specs.Laws.Overwriting.{over}
use Rattle.log_command.specs.Command.{starts_text}
use Rattle.log_command.proofs.write_lines.Given as goal

abbrev pub invariant-loop-i : goal.invariant-loop-i
invariant-loop-i l = (l.out ≡ over (starts_text l.starts) (15 * l.i) l.initial.out) × (length l.out ≡ length l.initial.out)
