-- What the table has in the row that is listed there.
use mathlib.Core.List.{Memᴰ as Mem}
use Rattle.workload.specs.Prepared.{frames_in, table_of}
use Rattle.workload.proofs.Laws.Fine.{part-listed}
use Rattle.workload.proofs.work.listed_row.Goals as goal

pub returns : goal.returns
returns c =
    let fs = table_of c.args.rows.now c.args.prepared.now in
    let is = c.row_at.ensures in
    let listed : Mem c.row_at.result.frame (frames_in fs c.args.part.now) = rw is (part-listed fs c.args.part.now c.requires.i_in_bounds) in
    record { frame_value = is; listed = listed; fine = c.requires.fine_part.fine _ listed }
