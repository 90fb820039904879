-- `simulator::operation::simulate_accepted` meets its contract: a test for each refusal, in their order.
use mathlib.Core.Path.{refl, sym, ap, ◌∙◌}
use borrow.Author.Tests.{eq-eqb, ne_eqb}
use Rattle.table_checks.proofs.Laws.Limits.{between-true}
use Rattle.simulator.specs.Simulate.{of_table, wanted_for, area_left}
use Rattle.simulator.proofs.Theory.Answers.{converted}
use Rattle.simulator.proofs.operation.simulate_accepted.Goals as goal

pub returns-then-seed-eq0 : goal.returns-then-seed-eq0
unfolding wanted_for area_left
returns-then-seed-eq0 c = record { value = rw (eq-eqb _ _ c.if-seed-eq0.true); out_after = refl }

pub returns-then-not-is_between : goal.returns-then-not-is_between
unfolding wanted_for area_left
returns-then-not-is_between c = record { value = rw (ne_eqb _ _ c.if-seed-eq0.false, ← c.is_between.ensures, c.if-not-is_between.true); out_after = refl }

pub write-requires : goal.write-requires
write-requires c = (between-true 1 1600 _ (sym c.is_between.ensures ∙ c.if-not-is_between.false)).1

pub returns-in_err-write : goal.returns-in_err-write
unfolding wanted_for area_left
returns-in_err-write c =
    let is = converted _ _ c.from_residual.ensures.1 in
    record {
      value = rw (ne_eqb _ _ c.if-seed-eq0.false, ← c.is_between.ensures, c.if-not-is_between.false) (is ∙ ap of_table c.in_err-write.ensures.value);
      out_after = rw is c.in_err-write.ensures.out_after;
    }

pub returns : goal.returns
unfolding wanted_for area_left
returns c =
    record {
      value = rw (ne_eqb _ _ c.if-seed-eq0.false, ← c.is_between.ensures, c.if-not-is_between.false) (ap of_table c.in_ok-write.ensures.value);
      out_after = c.in_ok-write.ensures.out_after;
    }
