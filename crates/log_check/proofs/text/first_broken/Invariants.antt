-- `log_check::first_broken` meets its contract: the lines left decide.
use Prim.Native.Nat.{◌-◌}
use mathlib.Core.Path.{◌≡◌}
use Rattle.arith.specs.Least.{least}
use Rattle.log_check.specs.Check.{is_broken, first_broken}
use Rattle.log_check.proofs.text.first_broken.Given as goal

abbrev pub invariant-loop-i : goal.invariant-loop-i
invariant-loop-i l = least (is_broken l.text) (l.n - l.i) l.i ≡ first_broken l.text
