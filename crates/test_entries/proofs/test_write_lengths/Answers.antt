-- The text of lengths is short enough for its length to be answered.
use mathlib.Core.Path.{sym, subst, ◌∙◌}
use Rattle.arith.specs.Laws.Signed.{kept}
use Rattle.certifier.specs.Steps.{Countable}
use Rattle.certifier.proofs.Laws.Answers.{named}
use Rattle.test_entries.specs.Laws.{lengths-countable}
use Rattle.test_entries.proofs.test_write_lengths.Goals as goal

pub encode_answer-requires : goal.encode_answer-requires
encode_answer-requires c = subst Countable (sym c.write.ensures.value) (lengths-countable _ _)

pub returns : goal.returns
returns c =
    let both = c.write.ensures in
    let answer = named _ _ both.value (kept _ c.encode_answer.type_inv ∙ c.encode_answer.ensures) both.file_after in
    record { value = rw (← c.array.ensures) answer.0; file_after = rw (← c.array.ensures) answer.1 }
