-- The loop fixes the groups one after the other, each at the alignment that leads to the first case.
use Prim.Native.Nat.{◌+◌}
use mathlib.Core.Path.{◌≡◌}
use mathlib.Core.List.{map}
use Rattle.bus_model.specs.Case.{shown}
use Rattle.greatest_work.specs.Setting.{frames, Remembers}
use Rattle.bounds.specs.Case.{LeadsTo}
use Rattle.bounds.proofs.case.first_case.Given as goal

abbrev pub invariant-loop-i : goal.invariant-loop-i
invariant-loop-i l = LeadsTo l.setting.target.faults (frames l.setting) l.setting.target.frame l.claim (l.i + 1) l.choices × (l.alignments ≡ map shown l.choices) × Remembers l.setting l.memory
