-- No cycles have no work; else it is that of a cycle from the first instant, so many times.
use Prim.Native.Nat.{◌*◌, ◌≤◌}
use mathlib.Core.Path.{sym}
use native.Mathlib.Omega.{arith}
use native.Mathlib.Nat.{mul-le-mul, zero-mul}
use Rattle.workload.proofs.Laws.Fine.{group-fine}
use Rattle.workload.proofs.Laws.Groups.{cycle-small, read-frames, read-cycle}
use Rattle.greatest_work.proofs.greatest.cycles_work.Goals as goal

pub returns-then-cycles-eq0 : goal.returns-then-cycles-eq0
returns-then-cycles-eq0 c = rw c.if-cycles-eq0.true (sym (zero-mul _))

pub part_of-part-requires : goal.part_of-part-requires
part_of-part-requires c = (c.args.setting.now.posed.prepared.filled.size, c.requires.0, c.args.setting.now.posed.prepared.by-group.inside c.args.j c.requires.0)

pub cycle_of-requires : goal.cycle_of-requires
cycle_of-requires c = (c.args.setting.now.posed.prepared.filled.size, c.requires.0)

pub work_in-requires : goal.work_in-requires
work_in-requires c =
    record { fine_part = rw c.part_of-part.ensures (group-fine c.args.setting.now.posed.prepared c.args.j c.requires.0); n_bound = omega (arith, c.cycle_of.ensures, cycle-small c.args.setting.now.posed.prepared c.args.j c.requires.0) }

pub overflow_mul-result : goal.overflow_mul-result
overflow_mul-result c =
    let product : c.args.cycles * c.work_in.result ≤ 1000001 * 25625625600 = mul-le-mul {n₂ = 1000001} {m₂ = 25625625600} c.requires.1 c.work_in.ensures.small in
    omega arith

pub returns : goal.returns
returns c =
    let g = c.args.setting.now.posed.prepared in
    rw (c.work_in.ensures.value, c.part_of-part.ensures, c.cycle_of.ensures, read-frames g c.args.j c.requires.0, read-cycle g c.args.j c.requires.0)
