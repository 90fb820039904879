-- The area is prepared for the frame of the row.
use mathlib.Core.Path.{refl}
use Rattle.row_judgement.proofs.decide.prepare_row.Goals as goal

pub frame_blocking-blocked-requires : goal.frame_blocking-blocked-requires
frame_blocking-blocked-requires c = c.prepare.ensures.prepared.filled

pub fault_time-cost-requires : goal.fault_time-cost-requires
fault_time-cost-requires c = c.prepare.ensures.prepared.filled

pub returns : goal.returns
returns c =
    let prepare = c.prepare.ensures in
    record { prepared_after = prepare.area_after; target = (c.frame-k.ensures, refl); prepared = (prepare.prepared, c.frame_blocking-blocked.ensures, c.fault_time-cost.ensures) }
