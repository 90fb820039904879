-- `table_checks::checks::is_identifier` meets its contract: a kind has one limit.
use mathlib.Core.Bool.{or-false}
use borrow.Author.Tests.{ne_eqb}
use Rattle.table_checks.specs.Columns.{is_identifier}
use Rattle.table_checks.proofs.checks.is_identifier.Goals as goal

pub returns-then-kind-eq11 : goal.returns-then-kind-eq11
unfolding is_identifier
returns-then-kind-eq11 c = simp (c.if-kind-eq11.true, or-false)

pub returns-then-kind-eq29 : goal.returns-then-kind-eq29
unfolding is_identifier
returns-then-kind-eq29 c = simp c.if-kind-eq29.true

pub returns-else-kind-eq29 : goal.returns-else-kind-eq29
unfolding is_identifier
returns-else-kind-eq29 c = simp (ne_eqb _ _ c.if-kind-eq11.false, ne_eqb _ _ c.if-kind-eq29.false)
