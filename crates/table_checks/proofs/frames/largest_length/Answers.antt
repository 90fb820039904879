-- `table_checks::frames::largest_length` meets its contract: it reads the table that the definition reads.
use mathlib.Core.Path.{sym}
use borrow.Author.Tests.{eq-eqb, ne_eqb, le-ltb}
use Rattle.table_checks.specs.Frames.{largest_length}
use Rattle.table_checks.proofs.Laws.Lengths.{too_long}
use Rattle.table_checks.proofs.frames.largest_length.Goals as goal

pub returns-then-payload-gt8 : goal.returns-then-payload-gt8
returns-then-payload-gt8 c = sym (too_long _ c.args.kind _ c.if-payload-gt8.true)

pub returns-then-kind-eq11 : goal.returns-then-kind-eq11
unfolding largest_length
returns-then-kind-eq11 c = rw (le-ltb _ _ c.if-payload-gt8.false, eq-eqb _ _ c.if-kind-eq11.true)

pub returns-else-kind-eq11 : goal.returns-else-kind-eq11
unfolding largest_length
returns-else-kind-eq11 c = rw (le-ltb _ _ c.if-payload-gt8.false, ne_eqb _ _ c.if-kind-eq11.false)
