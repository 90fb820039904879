use Prim.Native.Nat.{◌+◌}
use mathlib.Core.Path.{◌≡◌, sym, ◌∙◌}
use native.Mathlib.Omega.{arith}
use Rattle.greatest_work.specs.Setting.{ready}
use Rattle.greatest_work.specs.Setting.{frames, ready}
use Rattle.bounds.specs.Case.{LeadsTo}
use Rattle.bounds.specs.Laws.Case.{leads-start, leads-at, leads-own, leads-window, leads-some, leads-none, shown-set, shown-free}
use Rattle.bounds.proofs.case.first_case.Goals as goal
use Rattle.bounds.proofs.case.first_case.Goals.{After-loop-i}

pub loop-i-init : goal.loop-i-init
loop-i-init c = (leads-start _ _ _ _, shown-free, c.requires.remembered)

pub first_exceeding-a-requires : goal.first_exceeding-a-requires
first_exceeding-a-requires c = record { remembered = c.loop-i.invariant.2; leads_to = c.loop-i.invariant.0; le_group = (omega arith, omega (arith, c.loop-i-test.true), c.requires.frame_value) }

pub loop-i-preserved : goal.loop-i-preserved
loop-i-preserved c =
    (leads-at c.loop-i.choices c.loop-i.i c.first_exceeding-a.result c.first_exceeding-a.ensures.leads_to, shown-set c.loop-i.choices c.loop-i.i c.first_exceeding-a.result c.loop-i.invariant.1, c.first_exceeding-a.ensures.remembered)

pub busy_window-requires : goal.busy_window-requires
busy_window-requires c = c.loop-i.invariant.2

-- all groups are fixed
leads : (c : After-loop-i) → LeadsTo c.args.setting.now.target.faults (frames c.args.setting.now) c.args.setting.now.target.frame c.args.claim 17 c.loop-i.choices
leads c =
    let all : c.loop-i.i + 1 ≡ 17 = omega (arith, c.loop-i-test.false) in
    rw all at c.loop-i.invariant.0

pub exceeding_instance-requires : goal.exceeding_instance-requires
exceeding_instance-requires c =
    let l = leads (goal.at.exceeding_instance-requires c).After-loop-i in
    let p = (ready c.args.setting.now c.requires.remembered) in
    record { remembered = c.busy_window.ensures.remembered; own_fixed = leads-own p.prepared.filled.table p.listed l; choices_value = leads-window p.prepared.filled.table p.listed l c.requires.frame_value c.busy_window.ensures.value c.unwrap_or-window.ensures }

pub shape_of-memory : goal.shape_of-memory
shape_of-memory c = c.exceeding_instance.ensures.remembered.size ∙ sym c.requires.remembered.size

pub returns-in_err-instance : goal.returns-in_err-instance
returns-in_err-instance c =
    let p = (ready c.args.setting.now c.requires.remembered) in c.from_residual.ensures ∙ leads-none p.prepared.filled.table p.listed (leads (goal.at.returns-in_err-instance c).After-loop-i) c.in_err-instance.ensures.value

pub returns : goal.returns
returns c =
    let p = (ready c.args.setting.now c.requires.remembered) in leads-some p.prepared.filled.table p.listed (leads (goal.at.returns c).After-loop-i) c.in_ok-instance.ensures.value c.loop-i.invariant.1
