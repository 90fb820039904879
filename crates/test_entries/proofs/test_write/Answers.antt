-- The text of accepted rows is short enough for its length to be answered.
use mathlib.Core.Path.{sym, subst, ◌∙◌}
use Rattle.arith.specs.Laws.Signed.{kept}
use Rattle.certifier.specs.Steps.{Countable}
use Rattle.certifier.proofs.Laws.Answers.{named}
use Rattle.test_entries.specs.Laws.{write-countable}
use Rattle.test_entries.proofs.test_write.Goals as goal

pub encode_answer-requires : goal.encode_answer-requires
encode_answer-requires c = subst Countable (sym c.write.ensures.value) (write-countable _ _)

pub returns : goal.returns
returns c =
    let both = c.write.ensures in
    let answer = named _ _ both.value (kept _ c.encode_answer.type_inv ∙ c.encode_answer.ensures) both.file_after in record { value = answer.0; file_after = answer.1 }
