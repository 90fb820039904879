-- The loop keeps the greatest of the alignments before.
use Rattle.worst_case.specs.Laws.Starts.{MostOf}
use Rattle.worst_case.proofs.starts.meeting_tick.Given as goal

abbrev pub invariant-loop-i : goal.invariant-loop-i
invariant-loop-i l = MostOf l.alignments l.i l.most
