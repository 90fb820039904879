-- After i turns the first i numbers of the payload stand over the first i rows.
use Rattle.std.proofs.Common.{◌≡◌}
use Rattle.arith.specs.Laws.Overwriting.{over}
use Rattle.case_reader.specs.Cases.{words_of}
use Rattle.case_reader.proofs.unpack.Given as goal

abbrev pub invariant-loop-i : goal.invariant-loop-i
invariant-loop-i l = l.rows ≡ over (words_of l.payload) l.i l.initial.rows
