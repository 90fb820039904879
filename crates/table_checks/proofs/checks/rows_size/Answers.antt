-- `table_checks::checks::rows_size` meets its contract: each test that fails leads to the same cause.
use borrow.Author.Tests.{eq-eqb, ne_eqb, lt-ltb, le-ltb}
use Rattle.table_checks.specs.Checks.{rows_size_check}
use Rattle.table_checks.proofs.checks.rows_size.Goals as goal

pub returns-then-size-eq0 : goal.returns-then-size-eq0
unfolding rows_size_check
returns-then-size-eq0 c = simp (eq-eqb _ _ c.if-size-eq0.true) c.fail.ensures

pub returns-then-size-ne0 : goal.returns-then-size-ne0
unfolding rows_size_check
returns-then-size-ne0 c = simp (ne_eqb _ _ c.if-size-eq0.false, ne_eqb _ _ c.if-size-ne0.true) c.fail-then-size-ne0.ensures

pub returns-then-size-gt-MOST_NUMBERS : goal.returns-then-size-gt-MOST_NUMBERS
unfolding rows_size_check
returns-then-size-gt-MOST_NUMBERS c = simp (ne_eqb _ _ c.if-size-eq0.false, eq-eqb _ _ c.if-size-ne0.false, lt-ltb _ _ c.if-size-gt-MOST_NUMBERS.true) c.fail-then-size-gt-MOST_NUMBERS.ensures

pub returns : goal.returns
unfolding rows_size_check
returns c = simp (ne_eqb _ _ c.if-size-eq0.false, eq-eqb _ _ c.if-size-ne0.false, le-ltb _ _ c.if-size-gt-MOST_NUMBERS.false)
