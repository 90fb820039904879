-- The frame of the row is in its table, and what was prepared is so of it.
use mathlib.Core.Path.{sym, ap, subst, ◌∙◌}
use mathlib.Core.List.{List}
use Rattle.std.specs.Prelude.{ℕ, ◌≡◌, ◌<◌, length}
use Rattle.bus_model.specs.declared.Frame.{Frame}
use Rattle.bus_model.specs.declared.Faults.{Faults}
use Rattle.bus_model.specs.Frame.{row}
use Rattle.workload.specs.Faults.{FineFaults}
use Rattle.workload.specs.Prepared.{InTable}
use Rattle.workload.proofs.Laws.Groups.{target-fine}
use Rattle.greatest_work.specs.Listed.{row-listed}
use Rattle.row_judgement.proofs.decide.pose_row.Goals as goal

in-table : {fs gs : List Frame} {k : Frame} (i : ℕ) → i < length fs → k ≡ row fs i → fs ≡ gs → InTable gs k
in-table i inside is same = record { at = i; inside = subst (λ (fs : List Frame). i < length fs) same inside; is = is ∙ ap (λ (fs : List Frame). row fs i) same }

pub invariant_of-result : goal.invariant_of-result
invariant_of-result c =
    let r = c.prepare_row-target.ensures in
    let (ready, blocked, cost) = r.prepared in
    let listed = in-table c.args.i c.requires.i_in_bounds r.target.0 (sym r.prepared_after) in
    record {
      posed = record {
        prepared = ready;
        listed = row-listed listed;
        blocked = blocked;
        target = target-fine ready.filled.table listed (subst FineFaults (sym r.target.1) c.requires.fine_faults) cost;
        cost = cost;
      };
    }
