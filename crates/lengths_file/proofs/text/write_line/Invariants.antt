-- `lengths_file::text::write_line` meets its contract: after s turns the first s columns are written, and the last store is the line feed.
use Prim.Native.Nat.{◌*◌}
use mathlib.Core.Path.{◌≡◌}
use lib.ListN.{length}
use Rattle.arith.specs.Laws.Overwriting.{over}
use Rattle.lengths_file.specs.Lengths.{line_text}
use Rattle.lengths_file.proofs.text.write_line.Given as goal

abbrev pub invariant-loop-s : goal.invariant-loop-s
invariant-loop-s l = (l.line ≡ over (line_text l.lengths l.k) (5 * l.s) l.initial.line) × (length l.line ≡ 46)
