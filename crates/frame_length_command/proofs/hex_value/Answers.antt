-- `frame_length_command::hex_value` meets its contract: it goes by the same three ranges.
use mathlib.Core.Path.{sym, ◌∙◌}
use native.Mathlib.Omega.{arith}
use Rattle.frame_length_command.specs.Command.{hex_value}
use Rattle.frame_length_command.specs.Laws.Digits.{between-low}
use Rattle.frame_length_command.proofs.hex_value.Goals as goal

pub overflow_sub-result : goal.overflow_sub-result
overflow_sub-result c = omega (arith, between-low _ _ _ (sym c.is_between.ensures ∙ c.if-is_between.true))

pub returns-then-is_between : goal.returns-then-is_between
unfolding hex_value
returns-then-is_between c = rw (sym c.is_between.ensures ∙ c.if-is_between.true)

pub overflow_sub-result-then-is_between-2 : goal.overflow_sub-result-then-is_between-2
overflow_sub-result-then-is_between-2 c = omega (arith, between-low _ _ _ (sym c.is_between-2.ensures ∙ c.if-is_between-2.true))

pub returns-then-is_between-2 : goal.returns-then-is_between-2
unfolding hex_value
returns-then-is_between-2 c =
    rw (sym c.is_between.ensures ∙ c.if-is_between.false, sym c.is_between-2.ensures ∙ c.if-is_between-2.true)

pub overflow_sub-result-then-is_between-3 : goal.overflow_sub-result-then-is_between-3
overflow_sub-result-then-is_between-3 c = omega (arith, between-low _ _ _ (sym c.is_between-3.ensures ∙ c.if-is_between-3.true))

pub returns-then-is_between-3 : goal.returns-then-is_between-3
unfolding hex_value
returns-then-is_between-3 c =
    rw (
      sym c.is_between.ensures ∙ c.if-is_between.false,
      sym c.is_between-2.ensures ∙ c.if-is_between-2.false,
      sym c.is_between-3.ensures ∙ c.if-is_between-3.true,
    )

pub returns : goal.returns
unfolding hex_value
returns c =
    rw (
      sym c.is_between.ensures ∙ c.if-is_between.false,
      sym c.is_between-2.ensures ∙ c.if-is_between-2.false,
      sym c.is_between-3.ensures ∙ c.if-is_between-3.false,
    )
