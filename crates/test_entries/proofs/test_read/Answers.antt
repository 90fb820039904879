-- The numbers of an accepted file are few enough for their count to be answered.
use mathlib.Core.Path.{sym, subst, ◌∙◌}
use Rattle.arith.specs.Laws.Signed.{kept}
use Rattle.certifier.specs.Steps.{Countable}
use Rattle.certifier.proofs.Laws.Answers.{named}
use Rattle.test_entries.specs.Laws.{read-countable}
use Rattle.test_entries.proofs.test_read.Goals as goal

pub encode_answer-requires : goal.encode_answer-requires
encode_answer-requires c = subst Countable (sym c.read.ensures.value) (read-countable _ _)

pub returns : goal.returns
returns c =
    let both = c.read.ensures in
    let answer = named _ _ both.value (kept _ c.encode_answer.type_inv ∙ c.encode_answer.ensures) both.rows_after in record { value = answer.0; rows_after = answer.1 }
