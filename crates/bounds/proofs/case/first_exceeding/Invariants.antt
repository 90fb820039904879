-- The loop visits the group's alignments; with none before the one it stands at does a response exceed the claim.
use Prim.Native.Nat.{◌-◌}
use Rattle.bus_model.specs.Theory.Turns.{turn}
use Rattle.greatest_work.specs.Setting.{frames, Remembers}
use Rattle.bounds.specs.Laws.Case.{Tries}
use Rattle.bounds.proofs.case.first_exceeding.Given as goal

abbrev pub invariant-loop-b : goal.invariant-loop-b
invariant-loop-b l = Tries l.setting.target.faults (frames l.setting) l.setting.target.frame l.claim l.choices l.group l.a × Remembers l.setting l.memory

abbrev pub decreases-loop-b : goal.decreases-loop-b
decreases-loop-b l = turn (frames l.setting) l.setting.target.frame l.group - l.a
