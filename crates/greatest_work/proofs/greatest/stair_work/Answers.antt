-- What a stair tells is the work; else it is looked for, and remembered.
use mathlib.Core.Path.{sym}
use native.Mathlib.Omega.{arith}
use borrow.Author.Rules.{rules}
use Rattle.bus_model.specs.declared.Choice.TheVariants.{Any}
use Rattle.bus_model.specs.Bounds.{group_work}
use Rattle.bus_model.proofs.Theory.Turns.{first-aligned}
use Rattle.workload.proofs.Laws.Fine.{group-fine}
use Rattle.workload.proofs.Laws.Groups.{cycle-small, cycle-pos, read-group, read-alignments}
use Rattle.greatest_work.proofs.Laws.Memory.{told_is, put-guess}
use Rattle.greatest_work.proofs.greatest.stair_work.Goals as goal

pub cycle_of-cycle-requires : goal.cycle_of-cycle-requires
cycle_of-cycle-requires c = (c.args.setting.now.posed.prepared.filled.size, c.requires.j_bound.0)

pub first_of-requires : goal.first_of-requires
first_of-requires c = (c.args.setting.now.posed.prepared.filled.size, c.requires.j_bound.0)

pub count_of-requires : goal.count_of-requires
count_of-requires c = (c.args.setting.now.posed.prepared.filled.size, c.requires.j_bound.0)

pub set_of-set-requires : goal.set_of-set-requires
set_of-set-requires c =
    let few = c.args.setting.now.posed.prepared.by-group.inside c.args.j c.requires.j_bound.0 in
    (omega (arith, few, c.first_of.ensures), omega (arith, few, c.count_of.ensures), c.requires.j_bound.1, omega (arith, c.cycle_of-cycle.ensures, cycle-pos c.args.setting.now.posed.prepared c.args.j c.requires.j_bound.0))

pub lookup-requires : goal.lookup-requires
lookup-requires c = (c.requires.remembered.size, c.set_of-set.ensures)

pub returns-in-Some : goal.returns-in-Some
returns-in-Some c = record { value = told_is c.requires.remembered (c.lookup.ensures _ c.in-Some.is); remembered = c.requires.remembered }

pub part_of-part-requires : goal.part_of-part-requires
part_of-part-requires c = (c.args.setting.now.posed.prepared.filled.size, c.requires.j_bound.0, c.args.setting.now.posed.prepared.by-group.inside c.args.j c.requires.j_bound.0)

pub best_alignment-best-requires : goal.best_alignment-best-requires
best_alignment-best-requires c =
    record { fine_part = rw c.part_of-part.ensures (group-fine c.args.setting.now.posed.prepared c.args.j c.requires.j_bound.0); end_bound = (omega (arith, c.cycle_of-cycle.ensures, cycle-small c.args.setting.now.posed.prepared c.args.j c.requires.j_bound.0), c.requires.j_bound.1) }

pub insert-requires : goal.insert-requires
insert-requires c = (c.requires.remembered.size, c.set_of-set.ensures, c.requires.j_bound.0, omega (arith, c.requires.j_bound.1))

pub overflow_add-memory-2 : goal.overflow_add-memory-2
overflow_add-memory-2 c = omega (arith, c.requires.j_bound.0)

pub offset_bounds-memory-j : goal.offset_bounds-memory-j
offset_bounds-memory-j c = omega (arith, c.requires.j_bound.0)

pub bounds-memory-j : goal.bounds-memory-j
bounds-memory-j c = omega (arith, c.requires.j_bound.0, c.insert.auto.memory, c.requires.remembered.size)

pub returns : goal.returns
unfolding group_work
returns c =
    let p = c.args.setting.now.posed.prepared in
    let best = c.best_alignment-best.ensures in
    let among = rw (c.part_of-part.ensures, c.cycle_of-cycle.ensures) at best.among in
    let work = rw (c.part_of-part.ensures, c.cycle_of-cycle.ensures) at best.work_value in
    let is = read-group p c.args.j c.requires.j_bound.0 Any c.args.n work in
    let listed = first-aligned p.filled.table.valid _ _ (rw (read-alignments p c.args.j c.requires.j_bound.0) at among) in
    let kept = c.insert.ensures _ _ p.filled.table.valid (sym is) c.requires.remembered in
    record { value = is; remembered = put-guess kept c.args.j _ c.requires.j_bound.0 (search rules) listed }
