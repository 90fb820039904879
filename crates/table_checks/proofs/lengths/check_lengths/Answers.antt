-- `table_checks::lengths::check_lengths` meets its contract: the lines are looked at in their order.
use mathlib.Core.Path.{sym, ◌∙◌}
use Rattle.table_checks.specs.Checks.{lengths_check}
use Rattle.table_checks.proofs.Laws.Returns.{lengths-told}
use Rattle.table_checks.proofs.lengths.check_lengths.Goals as goal

pub returns-then-breaks_limits : goal.returns-then-breaks_limits
unfolding lengths_check
returns-then-breaks_limits c =
    let answer = lengths-told c.args.lengths (rw (sym c.breaks_limits.ensures ∙ c.if-breaks_limits.true) c.fail.ensures) in record { value = answer.0; in_numbers = answer.1 }

pub returns-then-breaks_limits-2 : goal.returns-then-breaks_limits-2
unfolding lengths_check
returns-then-breaks_limits-2 c =
    let answer = lengths-told c.args.lengths
    (rw (sym c.breaks_limits.ensures ∙ c.if-breaks_limits.false, sym c.breaks_limits-2.ensures ∙ c.if-breaks_limits-2.true) c.fail-then-breaks_limits-2.ensures) in record { value = answer.0; in_numbers = answer.1 }

pub returns : goal.returns
unfolding lengths_check
returns c =
    let answer = lengths-told c.args.lengths
    (rw (sym c.breaks_limits.ensures ∙ c.if-breaks_limits.false, sym c.breaks_limits-2.ensures ∙ c.if-breaks_limits-2.false)) in record { value = answer.0; in_numbers = answer.1 }
