-- `log_check::check_text` meets its contract.
use mathlib.Core.Path.{sym, ◌∙◌}
use native.Mathlib.Omega.{arith}
use Rattle.log_check.specs.Check.{line_answer, text_answer}
use Rattle.log_check.specs.Laws.Loop.{sized}
use Rattle.log_check.specs.Laws.Meaning.{broken-few}
use Rattle.log_check.proofs.check_text.Goals as goal

pub returns-then-is_missized : goal.returns-then-is_missized
unfolding text_answer
returns-then-is_missized c = rw (← c.is_missized.ensures, c.if-is_missized.true) c.refuse_at.ensures

pub first_broken-requires : goal.first_broken-requires
first_broken-requires c = sized _ (sym c.is_missized.ensures ∙ c.if-is_missized.false)

pub overflow_add-i : goal.overflow_add-i
overflow_add-i c =
    let most = sized _ (sym c.is_missized.ensures ∙ c.if-is_missized.false) in
    omega (arith, broken-few _ most _ (sym c.first_broken.ensures ∙ c.in-Some.is))

pub answer-requires : goal.answer-requires
answer-requires c = (sized _ (sym c.is_missized.ensures ∙ c.if-is_missized.false), sym c.first_broken.ensures ∙ c.in-None.is)

pub returns-in-Some : goal.returns-in-Some
unfolding text_answer line_answer
returns-in-Some c = rw (← c.is_missized.ensures, c.if-is_missized.false, ← c.first_broken.ensures, c.in-Some.is) c.refuse_at-in-Some.ensures

pub returns-in-None : goal.returns-in-None
unfolding text_answer line_answer
returns-in-None c = rw (← c.is_missized.ensures, c.if-is_missized.false, ← c.first_broken.ensures, c.in-None.is) c.answer.ensures
