-- `lengths_file::text::breaks_notation` meets its contract: the invariant says that the columns left decide.
use Prim.Native.Nat.{◌-◌}
use mathlib.Core.Path.{◌≡◌}
use Rattle.arith.specs.Lists.{exists, range}
use Rattle.lengths_file.specs.Lengths.{is_broken}
use Rattle.lengths_file.proofs.text.breaks_notation.Given as goal

abbrev pub invariant-loop-s : goal.invariant-loop-s
invariant-loop-s l = exists (is_broken l.file l.k) (range l.s (9 - l.s)) ≡ exists (is_broken l.file l.k) (range 0 9)
