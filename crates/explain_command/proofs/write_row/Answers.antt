-- A refusal is written as such; a row that is judged has an identifier.
use Prim.Native.Nat.{◌/◌, ◌≤◌, ◌<◌}
use mathlib.Core.Path.{sym, ap, ◌∙◌}
use native.Mathlib.Omega.{arith}
use lib.ListN.{length}
use Rattle.table_checks.specs.Columns.{columns, most_numbers}
use Rattle.table_checks.proofs.Laws.Accepted.{accepted-size}
use Rattle.row_judgement.specs.declared.Explained.{Explained}
use Rattle.row_judgement.specs.Explain.{explain_row}
use Rattle.explain_command.specs.Laws.Text.{text-refused, text-judged, judged-inside}
use Rattle.explain_command.proofs.write_row.Goals as goal
use Rattle.explain_command.proofs.write_row.Goals.{In-Ok}

-- the row stands in the table, which is short
place : (c : In-Ok) → (c.args.row < length c.args.table.now.rows.now / columns) × (length c.args.table.now.rows.now ≤ most_numbers)
unfolding explain_row
place c = (judged-inside c.args.table.now.lengths c.args.table.now.rows.now c.args.row _ (sym (ap (λ (e : Explained). e.judged) c.explain-explained.ensures.value) ∙ c.in-Ok.is), (accepted-size c.args.table.now.rows.now c.args.table.now.accepted.1).most)

pub overflow_mul-identifier : goal.overflow_mul-identifier
overflow_mul-identifier c = record { fits = omega (arith, place (c)) }

pub overflow_add-identifier : goal.overflow_add-identifier
overflow_add-identifier c = record { fits = omega (arith, place (c)) }

pub offset_bounds-table-row : goal.offset_bounds-table-row
offset_bounds-table-row c = record { fits = omega (arith, place (c)) }

pub bounds-table-row : goal.bounds-table-row
bounds-table-row c = omega (arith, place (goal.at.bounds-table-row c).In-Ok)

pub returns-in-Err : goal.returns-in-Err
returns-in-Err c =
    let e = c.write_refusal.ensures in
    record {
      value = rw (← c.explain-explained.ensures.value, text-refused _ c.explain-explained.result _ c.in-Err.is) e.value;
      out_after = rw (← c.explain-explained.ensures.value, text-refused _ c.explain-explained.result _ c.in-Err.is) e.out_after;
    }

pub returns-in-Ok : goal.returns-in-Ok
returns-in-Ok c = record {
  value = rw (← c.explain-explained.ensures.value, text-judged _ c.explain-explained.result _ c.in-Ok.is) c.write_judged.ensures.value;
  out_after = rw (← c.explain-explained.ensures.value, text-judged _ c.explain-explained.result _ c.in-Ok.is) c.write_judged.ensures.out_after;
}
