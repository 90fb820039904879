-- The alignments give the starts, and that of the own group with the number the instance.
use Rattle.worst_case.specs.Steps.{case_shown}
use Rattle.worst_case.proofs.row.show.Goals as goal

pub returns : goal.returns
unfolding case_shown
returns c = rw (c.starts_of.ensures, c.instance_from.ensures, c.alignment_of-own.ensures)
