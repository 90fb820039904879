-- `lengths_file::text::line` meets its contract: after s turns the first s numbers are read.
use mathlib.Core.Path.{◌≡◌}
use lib.ListN.{length}
use Rattle.arith.specs.Laws.Overwriting.{over}
use Rattle.lengths_file.specs.Lengths.{line_of}
use Rattle.lengths_file.proofs.text.line.Given as goal

abbrev pub invariant-loop-s : goal.invariant-loop-s
invariant-loop-s l = (l.numbers ≡ over (line_of l.file l.k) l.s l.initial.numbers) × (length l.numbers ≡ 9)
