-- The rows that are handed on are those of the group, and its hyperperiod is the end.
use Prim.Native.Nat.{ℕ, ◌+◌, ◌-◌, ◌<◌}
use mathlib.Core.Path.{◌≡◌, ap, ◌∙◌}
use native.Mathlib.Omega.{arith}
use lib.ListN.{length}
use Rattle.bus_model.specs.Bounds.{alignments, or_empty}
use Rattle.workload.specs.Prepared.{table_of}
use Rattle.workload.proofs.Laws.Fine.{group-fine}
use Rattle.bounds.specs.Laws.Search.{counted}
use Rattle.bounds.proofs.count.alignment_count.Goals as goal
use Rattle.bounds.proofs.count.alignment_count.Goals.{Start}

-- the group's place
less : (s : Start) → s.args.group - 1 < 16
less s = omega (arith, s.requires.le_group)

same : (s : Start) → s.args.group - 1 + 1 ≡ s.args.group
same s = omega (arith, s.requires.le_group.0)

pub part_of-part-requires : goal.part_of-part-requires
part_of-part-requires c = (c.requires.prepared.filled.size, less (goal.at.part_of-part-requires c).Start, c.requires.prepared.by-group.inside (c.args.group - 1) (less (goal.at.part_of-part-requires c).Start))

pub count_alignments-requires : goal.count_alignments-requires
count_alignments-requires c =
    let p = c.requires.prepared in
    let small = p.filled.table.hyper (c.args.group - 1 + 1) (omega arith) (omega (arith, less (goal.at.count_alignments-requires c).Start)) in
    record { fine_part = rw c.part_of-part.ensures (group-fine p (c.args.group - 1) (less (goal.at.count_alignments-requires c).Start)); end_bound = omega (arith, c.hyperperiod_of.ensures, p.by-group.hyper (c.args.group - 1) (less (goal.at.count_alignments-requires c).Start), small) }

pub returns : goal.returns
returns c =
    let fs = table_of c.args.rows.now c.args.prepared.now in
    let is = rw (c.part_of-part.ensures, c.hyperperiod_of.ensures) at c.count_alignments.ensures.value in
    is ∙ counted c.requires.prepared (less (goal.at.returns c).Start) ∙ ap (λ (j : ℕ). length (or_empty (alignments fs c.args.k j))) (same (goal.at.returns c).Start)
