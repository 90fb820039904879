-- The loop writes one start after the other.
use Rattle.worst_case.specs.Laws.Starts.{StartsTo}
use Rattle.worst_case.proofs.starts.starts_of.Given as goal

abbrev pub invariant-loop-i : goal.invariant-loop-i
invariant-loop-i l = StartsTo l.alignments l.i l.starts
