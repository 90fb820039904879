-- Where k's own group is fixed, the loop looks for the least open one.
use Prim.Native.Nat.{◌+◌, ◌-◌}
use mathlib.Core.Path.{◌≡◌}
use Rattle.arith.specs.Least.{least}
use Rattle.bus_model.specs.Theory.OpenGroups.{is_open}
use Rattle.bounds.proofs.alignments.next_open.Given as goal

abbrev pub invariant-loop-j : goal.invariant-loop-j
invariant-loop-j l = least (is_open l.fn.choices) (17 - (l.j + 1)) (l.j + 1) ≡ least (is_open l.fn.choices) (17 - 1) 1
