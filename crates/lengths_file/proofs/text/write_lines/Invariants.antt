-- `lengths_file::text::write_lines` meets its contract: after k turns the first k lines are written, and the rest is as it was.
use Prim.Native.Nat.{◌*◌}
use mathlib.Core.Path.{◌≡◌}
use lib.ListN.{length}
use Rattle.arith.specs.Laws.Overwriting.{over}
use Rattle.lengths_file.specs.Lengths.{line_text}
use Rattle.lengths_file.proofs.Laws.Layout.{joined}
use Rattle.lengths_file.proofs.text.write_lines.Given as goal

abbrev pub invariant-loop-k : goal.invariant-loop-k
invariant-loop-k l = (l.file ≡ over (joined (line_text l.lengths) 2 0) (46 * l.k) l.initial.file) × (length l.file ≡ length l.initial.file)
