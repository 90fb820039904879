-- The rows handed on are those of the group, whose instants are its alignments and whose cycle is the end.
use Prim.Native.Nat.{ℕ, ◌+◌, ◌-◌, ◌<◌}
use mathlib.Core.Path.{◌≡◌, ap, ◌∙◌}
use native.Mathlib.Omega.{arith}
use Rattle.arith.specs.Least.{least}
use Rattle.bus_model.specs.Theory.Visits.{is_alignment}
use Rattle.bus_model.specs.Theory.Turns.{turn}
use Rattle.workload.specs.Prepared.{table_of}
use Rattle.workload.proofs.Laws.Fine.{group-fine}
use Rattle.workload.proofs.Laws.Groups.{cycle-small, read-cycle, read-search}
use Rattle.bounds.proofs.alignments.next_of.Goals as goal
use Rattle.bounds.proofs.alignments.next_of.Goals.{Start}

-- the group's place
less : (s : Start) → s.args.group - 1 < 16
less s = omega (arith, s.requires.le_group)

same : (s : Start) → s.args.group - 1 + 1 ≡ s.args.group
same s = omega (arith, s.requires.le_group.0)

pub part_of-part-requires : goal.part_of-part-requires
part_of-part-requires c = (c.requires.prepared.filled.size, less (goal.at.part_of-part-requires c).Start, c.requires.prepared.by-group.inside (c.args.group - 1) (less (goal.at.part_of-part-requires c).Start))

pub next_alignment-requires : goal.next_alignment-requires
next_alignment-requires c =
    let cycle = rw (same (goal.at.next_alignment-requires c).Start) at (read-cycle c.requires.prepared (c.args.group - 1) (less (goal.at.next_alignment-requires c).Start)) in
    record { fine_part = rw c.part_of-part.ensures (group-fine c.requires.prepared (c.args.group - 1) (less (goal.at.next_alignment-requires c).Start)); after_le_end = (omega (arith, c.cycle_of.ensures, cycle, c.requires.le_group.2), omega (arith, c.cycle_of.ensures, cycle-small c.requires.prepared (c.args.group - 1) (less (goal.at.next_alignment-requires c).Start))) }

pub returns : goal.returns
returns c =
    let fs = table_of c.args.rows.now c.args.prepared.now in
    let k = c.args.k in
    rw (c.part_of-part.ensures, c.cycle_of.ensures) at c.next_alignment.ensures ∙ read-search c.requires.prepared (c.args.group - 1) (less (goal.at.returns c).Start) c.args.after
    ∙ ap (λ (j : ℕ). least (is_alignment fs k j) (turn fs k j - c.args.after) c.args.after) (same (goal.at.returns c).Start)
