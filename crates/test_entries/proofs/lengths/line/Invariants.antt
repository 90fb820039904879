-- After s turns the first s numbers are in the line.
use mathlib.Core.Path.{◌≡◌}
use lib.ListN.{length}
use Rattle.arith.specs.Laws.Overwriting.{over}
use Rattle.test_entries.specs.Lengths.{line_from}
use Rattle.test_entries.proofs.lengths.line.Given as goal

abbrev pub invariant-loop-s : goal.invariant-loop-s
invariant-loop-s l = (l.line ≡ over (line_from l.numbers l.from) l.s l.initial.line) × (length l.line ≡ 9)
