-- A row that is prepared, with nothing remembered.
use Rattle.std.specs.Prelude.{ℕ, ◌<◌, ◌≡◌, refl, List, length, replicate}
use Rattle.std.proofs.Math.Path.{sym}
use Rattle.std.proofs.Common.{subst}
use Rattle.bus_model.specs.declared.Frame.{Frame}
use Rattle.bus_model.specs.Frame.{row}
use Rattle.bus_model.specs.Bounds.{blocking}
use Rattle.table_checks.specs.Frames.{frames_of}
use Rattle.workload.specs.declared.Target.{Target}
use Rattle.workload.specs.Prepared.{table_of, Prepared, InTable}
use Rattle.workload.specs.Faults.{cost_of, FineFaults}
use Rattle.workload.proofs.Laws.Groups.{target-fine}
use Rattle.greatest_work.specs.Ready.{Ready}
use Rattle.greatest_work.proofs.Laws.Memory.{remembers-none}

pub ready-new : (ls : List (List ℕ)) {rows p : List ℕ} {t : Target} {i : ℕ} → table_of rows p ≡ frames_of ls rows → t.frame ≡ row (frames_of ls rows) i
    → FineFaults t.faults → Prepared rows p t.frame × (t.blocked ≡ blocking (table_of rows p) t.frame) × (t.cost ≡ cost_of t.faults (table_of rows p) t.frame)
    → i < length (frames_of ls rows) → Ready rows p t (replicate 528 0)
ready-new ls {rows} {p} {t} {i} same is premise (prepared, blocked, cost) inside =
    let listed = subst (λ (fs : List Frame). InTable fs t.frame) (sym same) (record { at = i; inside = inside; is = is }) in
    record {
      prepared = prepared;
      listed = listed;
      blocked = blocked;
      target = target-fine prepared.filled.table listed premise cost;
      cost = cost;
      remembered = remembers-none prepared.filled.table t.frame refl refl;
    }
