-- What is remembered is one more than an alignment of the group; else the first that is found, or the empty one.
use Prim.Native.Nat.{◌+◌}
use mathlib.Core.Path.{◌∙◌}
use native.Mathlib.Omega.{arith}
use Rattle.bus_model.proofs.Theory.Turns.{first-listed}
use Rattle.workload.proofs.Laws.Fine.{group-fine}
use Rattle.workload.proofs.Laws.Groups.{cycle-small, read-search}
use Rattle.greatest_work.proofs.guesses.guess.Goals as goal

pub bounds-memory-j : goal.bounds-memory-j
bounds-memory-j c = omega (arith, c.requires.remembered.size, c.requires.j_bound)

pub overflow_cast-result : goal.overflow_cast-result
overflow_cast-result c = omega (arith, c.requires.remembered.guess_small c.args.j c.requires.j_bound)

pub returns-then-last-gt0 : goal.returns-then-last-gt0
returns-then-last-gt0 c = c.requires.remembered.guess c.args.j c.requires.j_bound c.if-last-gt0.true

pub part_of-part-requires : goal.part_of-part-requires
part_of-part-requires c = (c.args.setting.now.posed.prepared.filled.size, c.requires.j_bound, c.args.setting.now.posed.prepared.by-group.inside c.args.j c.requires.j_bound)

pub cycle_of-requires : goal.cycle_of-requires
cycle_of-requires c = (c.args.setting.now.posed.prepared.filled.size, c.requires.j_bound)

pub next_alignment-requires : goal.next_alignment-requires
next_alignment-requires c =
    record { fine_part = rw c.part_of-part.ensures (group-fine c.args.setting.now.posed.prepared c.args.j c.requires.j_bound); after_le_end = (omega arith, rw c.cycle_of.ensures (cycle-small c.args.setting.now.posed.prepared c.args.j c.requires.j_bound)) }

pub returns : goal.returns
returns c =
    let first = rw (c.part_of-part.ensures, c.cycle_of.ensures) at c.next_alignment.ensures ∙ read-search c.args.setting.now.posed.prepared c.args.j c.requires.j_bound 0 in
    rw c.unwrap_or.ensures (first-listed c.args.setting.now.posed.prepared.filled.table.valid c.args.setting.now.target.frame (c.args.j + 1) _ first)
