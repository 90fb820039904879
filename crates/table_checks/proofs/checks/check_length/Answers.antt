-- `table_checks::checks::check_length` meets its contract: the tests stand in the order of the causes.
use borrow.Author.Tests.{eq-eqb, ne_eqb, lt-ltb, le-ltb}
use Rattle.table_checks.specs.Checks.{file_size_check}
use Rattle.table_checks.proofs.Laws.Returns.{size-told}
use Rattle.table_checks.proofs.checks.check_length.Goals as goal

pub returns-then-size-eq0 : goal.returns-then-size-eq0
unfolding file_size_check
returns-then-size-eq0 c = let answer = size-told c.args.size (simp (eq-eqb _ _ c.if-size-eq0.true) c.fail.ensures) in record { value = answer.0; in_numbers = answer.1 }

pub returns-then-size-ne0 : goal.returns-then-size-ne0
unfolding file_size_check
returns-then-size-ne0 c =
    let answer = size-told c.args.size
    (simp (ne_eqb _ _ c.if-size-eq0.false, ne_eqb _ _ c.if-size-ne0.true) c.fail-then-size-ne0.ensures) in record { value = answer.0; in_numbers = answer.1 }

pub returns-then-size-gt-MOST_LINES : goal.returns-then-size-gt-MOST_LINES
unfolding file_size_check
returns-then-size-gt-MOST_LINES c =
    let answer = size-told c.args.size
    (simp (ne_eqb _ _ c.if-size-eq0.false, eq-eqb _ _ c.if-size-ne0.false, lt-ltb _ _ c.if-size-gt-MOST_LINES.true) c.fail-then-size-gt-MOST_LINES.ensures) in record { value = answer.0; in_numbers = answer.1 }

pub returns : goal.returns
unfolding file_size_check
returns c =
    let answer = size-told c.args.size
    (simp (ne_eqb _ _ c.if-size-eq0.false, eq-eqb _ _ c.if-size-ne0.false, le-ltb _ _ c.if-size-gt-MOST_LINES.false)) in record { value = answer.0; in_numbers = answer.1 }
