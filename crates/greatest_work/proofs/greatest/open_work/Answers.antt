-- The cycle is not 0; the rest has no work where it has no ticks.
use Prim.Native.Nat.{◌+◌}
use mathlib.Core.Path.{sym, ◌∙◌}
use native.Mathlib.Omega.{arith}
use native.Mathlib.Nat.{div-le_self, mod-le, add-zero}
use Rattle.workload.proofs.Laws.Groups.{cycle-pos}
use Rattle.greatest_work.proofs.Laws.Memory.{most-none, most-rest}
use Rattle.greatest_work.proofs.greatest.open_work.Goals as goal

pub cycle_of-cycle-requires : goal.cycle_of-cycle-requires
cycle_of-cycle-requires c = (c.args.setting.now.posed.prepared.filled.size, c.requires.j_bound.0)

pub nonzero_div-cycles : goal.nonzero_div-cycles
nonzero_div-cycles c = omega (arith, c.cycle_of-cycle.ensures, cycle-pos c.args.setting.now.posed.prepared c.args.j c.requires.j_bound.0)

pub nonzero_rem-rest : goal.nonzero_rem-rest
nonzero_rem-rest c = omega (arith, c.cycle_of-cycle.ensures, cycle-pos c.args.setting.now.posed.prepared c.args.j c.requires.j_bound.0)

pub cycles_work-whole-requires : goal.cycles_work-whole-requires
cycles_work-whole-requires c = (c.requires.j_bound.0, omega (arith, div-le_self c.args.n c.cycle_of-cycle.result, c.requires.j_bound.1))

pub returns-then-rest-eq0 : goal.returns-then-rest-eq0
returns-then-rest-eq0 c =
    let r = most-rest c.args.setting.now.posed.prepared c.args.j c.requires.j_bound.0 c.args.n c.requires.j_bound.1 {b = 0} (rw c.cycle_of-cycle.ensures at c.cycles_work-whole.ensures) (rw (← c.cycle_of-cycle.ensures, c.if-rest-eq0.true) (sym (most-none c.args.setting.now.posed.prepared.filled.table c.args.setting.now.target.frame (c.args.j + 1)))) in
    record { value = sym (add-zero _) ∙ r.0; small = omega (arith, r.1); remembered = c.requires.remembered }

pub stair_work-requires : goal.stair_work-requires
stair_work-requires c = record { remembered = c.requires.remembered; j_bound = (c.requires.j_bound.0, omega (arith, mod-le c.args.n c.cycle_of-cycle.result, c.requires.j_bound.1)) }

pub overflow_add-result : goal.overflow_add-result
overflow_add-result c =
    let r = most-rest c.args.setting.now.posed.prepared c.args.j c.requires.j_bound.0 c.args.n c.requires.j_bound.1 (rw c.cycle_of-cycle.ensures at c.cycles_work-whole.ensures) (rw c.cycle_of-cycle.ensures at c.stair_work.ensures.value) in
    omega (arith, r.1)

pub returns : goal.returns
returns c =
    let r = most-rest c.args.setting.now.posed.prepared c.args.j c.requires.j_bound.0 c.args.n c.requires.j_bound.1 (rw c.cycle_of-cycle.ensures at c.cycles_work-whole.ensures) (rw c.cycle_of-cycle.ensures at c.stair_work.ensures.value) in
    record { value = r.0; small = r.1; remembered = c.stair_work.ensures.remembered }
