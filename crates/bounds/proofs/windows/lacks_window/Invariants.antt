-- The loop goes through the alignments of the own group until one has no window.
use Prim.Native.Nat.{◌-◌}
use Rattle.bus_model.specs.Theory.Turns.{turn}
use Rattle.greatest_work.specs.Setting.{frames, Remembers}
use Rattle.bounds.specs.Laws.Search.{Missing}
use Rattle.bounds.proofs.windows.lacks_window.Given as goal

abbrev pub invariant-alignments : goal.invariant-alignments
invariant-alignments l = Missing l.setting.target.faults (frames l.setting) l.setting.target.frame l.a × Remembers l.setting l.memory

abbrev pub decreases-alignments : goal.decreases-alignments
decreases-alignments l = turn (frames l.setting) l.setting.target.frame l.setting.target.frame.group - l.a
