use Prim.Native.Nat.{◌+◌, ◌-◌, ◌≤◌}
use mathlib.Core.Path.{◌≡◌, sym, ◌∙◌}
use native.Mathlib.Omega.{arith}
use borrow.Author.Tests.{ltb-true, ltb-false}
use lib.Dec.{ltb}
use lib.ListN.{set}
use Rattle.bus_model.specs.declared.Choice.TheVariants.{Fixed}
use Rattle.bus_model.specs.Theory.OpenGroups.{fixing_more}
use Rattle.bus_model.specs.Theory.Turns.{turn}
use Rattle.bus_model.proofs.Theory.Turns.{turn-le}
use Rattle.greatest_work.specs.Setting.{frames, listed}
use Rattle.bounds.specs.Laws.Case.{tries-first, tries-inside, tries-refined, tries-take, tries-last, tries-next, tries-less}
use Rattle.bounds.proofs.case.first_exceeding.Goals as goal
use Rattle.bounds.proofs.case.first_exceeding.Goals.{After-is_exceeded, At-loop-b}

pub next_of-requires : goal.next_of-requires
next_of-requires c = let p = c.requires in record { prepared = c.args.setting.now.posed.prepared; le_group = (p.le_group.0, p.le_group.1, omega arith) }

pub loop-b-init : goal.loop-b-init
loop-b-init c = let p = c.requires in (tries-first p.leads_to (p.le_group.0, p.le_group.1) c.next_of.result c.next_of.ensures c.unwrap_or-a.ensures, p.remembered)

-- the alignment is one of the first turn
inside : (c : At-loop-b) → c.loop-b.a + 1 ≤ turn (frames c.args.setting.now) c.args.setting.now.target.frame c.args.group
inside c =
    let p = c.requires in
    omega (arith, tries-inside c.args.setting.now.posed.prepared.filled.table (listed c.args.setting.now) p.leads_to (p.le_group.0, p.le_group.1) c.loop-b.invariant.0)

pub overflow_add-a : goal.overflow_add-a
overflow_add-a c =
    let p = c.requires in
    let t = c.args.setting.now.posed.prepared.filled.table in
    omega (arith, inside (goal.at.overflow_add-a c).At-loop-b, t.hyper _ p.le_group.0 p.le_group.1, turn-le t.valid c.args.setting.now.target.frame c.args.group)

pub next_of-requires-in-loop-b : goal.next_of-requires-in-loop-b
next_of-requires-in-loop-b c = let p = c.requires in record { prepared = c.args.setting.now.posed.prepared; le_group = (p.le_group.0, p.le_group.1, inside (goal.at.next_of-requires-in-loop-b c).At-loop-b) }

pub shape_of-memory-in_default : goal.shape_of-memory-in_default
shape_of-memory-in_default c = c.loop-b.invariant.1.size ∙ sym c.requires.remembered.size

pub returns-in_default : goal.returns-in_default
returns-in_default c =
    let p = c.requires in record { leads_to = tries-last c.args.setting.now.posed.prepared.filled.table (listed c.args.setting.now) p.leads_to (p.le_group.0, p.le_group.1) c.loop-b.invariant.0 (sym c.next_of-in-loop-b.ensures ∙ c.in_default.is); remembered = c.loop-b.invariant.1 }

pub with_choice-finer-requires : goal.with_choice-finer-requires
with_choice-finer-requires c = let p = c.requires in (p.le_group.0, p.le_group.1)

pub is_exceeded-requires : goal.is_exceeded-requires
is_exceeded-requires c =
    let p = c.requires in record { remembered = c.loop-b.invariant.1; refined_by = tries-refined c.args.setting.now.posed.prepared.filled.table (listed c.args.setting.now) p.leads_to (p.le_group.0, p.le_group.1) c.loop-b.invariant.0 c.with_choice-finer.ensures; frame_value = p.le_group.2 }

pub shape_of-memory-then-is_exceeded : goal.shape_of-memory-then-is_exceeded
shape_of-memory-then-is_exceeded c = c.is_exceeded.ensures.remembered.size ∙ sym c.requires.remembered.size

-- it is exceeded just where some response with the alignment is above it
exceeds : (c : After-is_exceeded) → let x = c.args in c.is_exceeded.result ≡ ltb x.claim (fixing_more x.setting.now.target.faults (frames x.setting.now) x.setting.now.target.frame 16 (set x.choices (x.group - 1) (Fixed c.loop-b.a)))
exceeds c = rw c.with_choice-finer.ensures at c.is_exceeded.ensures.value

pub returns-then-is_exceeded : goal.returns-then-is_exceeded
returns-then-is_exceeded c =
    let p = c.requires in record { leads_to = tries-take c.args.setting.now.posed.prepared.filled.table (listed c.args.setting.now) p.leads_to (p.le_group.0, p.le_group.1) c.loop-b.invariant.0 (ltb-true _ _ (sym (exceeds (goal.at.returns-then-is_exceeded c).After-is_exceeded) ∙ c.if-is_exceeded.true)); remembered = c.is_exceeded.ensures.remembered }

pub loop-b-smaller : goal.loop-b-smaller
loop-b-smaller c =
    let p = c.requires in tries-less c.args.setting.now.posed.prepared.filled.table (listed c.args.setting.now) p.leads_to (p.le_group.0, p.le_group.1) c.loop-b.invariant.0 (sym c.next_of-in-loop-b.ensures ∙ c.in-Some.is)

pub loop-b-preserved : goal.loop-b-preserved
loop-b-preserved c =
    let p = c.requires in (tries-next c.args.setting.now.posed.prepared.filled.table (listed c.args.setting.now) p.leads_to (p.le_group.0, p.le_group.1) c.loop-b.invariant.0 (sym c.next_of-in-loop-b.ensures ∙ c.in-Some.is) (ltb-false _ _ (sym (exceeds (goal.at.loop-b-preserved c).After-is_exceeded) ∙ c.if-is_exceeded.false)), c.is_exceeded.ensures.remembered)
