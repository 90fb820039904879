-- By the choice: a fixed alignment has its work at once, and else it is the greatest that is remembered or looked for.
use Rattle.bus_model.specs.declared.Choice.TheVariants.{Fixed}
use Rattle.bus_model.specs.Bounds.{group_work}
use Rattle.workload.proofs.Laws.Fine.{group-fine}
use Rattle.workload.proofs.Laws.Groups.{read-group}
use Rattle.greatest_work.proofs.greatest.group_work.Goals as goal

pub part_of-requires : goal.part_of-requires
part_of-requires c = (c.args.setting.now.posed.prepared.filled.size, c.requires.j_bound.0, c.args.setting.now.posed.prepared.by-group.inside c.args.j c.requires.j_bound.0)

pub work_in-requires : goal.work_in-requires
work_in-requires c = record { fine_part = rw c.part_of.ensures (group-fine c.args.setting.now.posed.prepared c.args.j c.requires.j_bound.0); n_bound = c.requires.j_bound.1 }

pub returns-in-Fixed : goal.returns-in-Fixed
unfolding group_work
returns-in-Fixed c =
    let is = read-group c.args.setting.now.posed.prepared c.args.j c.requires.j_bound.0 (Fixed c.in-Fixed.a) c.args.n (rw c.part_of.ensures at c.work_in.ensures.value) in
    record { value = rw c.in-Fixed.is is; small = c.work_in.ensures.small; remembered = c.requires.remembered }

pub returns-in-Any : goal.returns-in-Any
returns-in-Any c = record { value = rw c.in-Any.is c.open_work.ensures.value; small = c.open_work.ensures.small; remembered = c.open_work.ensures.remembered }
