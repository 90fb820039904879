-- By the own group: where it is open, it is the first to be fixed.
use Prim.Native.Nat.{ℕ, ◌-◌, ◌≤◌}
use mathlib.Core.Path.{◌≡◌, sym, ap, subst, ◌∙◌}
use mathlib.Core.List.{List}
use native.Mathlib.Omega.{arith}
use borrow.Author.Rules.{rules}
use lib.Dec.{ltb}
use lib.ListN.{length, set}
use Rattle.bus_model.specs.Bounds.{choice_of}
use Rattle.bus_model.specs.Theory.OpenGroups.{fixing_more}
use Rattle.bus_model.specs.declared.Choice.{Choice}
use Rattle.bus_model.specs.declared.Choice.TheVariants.{Fixed}
use Rattle.greatest_work.specs.Setting.{frames, ready, listed}
use Rattle.response_time.specs.Load.{OwnFixed, Reaches}
use Rattle.workload.proofs.Laws.Fine.{in-table-fine}
use Rattle.bounds.specs.Laws.Search.{own-group, settled-test}
use Rattle.bounds.specs.Laws.Case.{own-again, refined-window}
use Rattle.bounds.proofs.refine.is_exceeded.Goals as goal
use Rattle.bounds.proofs.refine.is_exceeded.Goals.{In-Fixed, Start}

pub own_choice-requires : goal.own_choice-requires
own_choice-requires c = let p = (ready c.args.setting.now c.requires.remembered) in in-table-fine _ p.prepared.filled.table p.listed

pub refine_own-requires : goal.refine_own-requires
refine_own-requires c =
    let p = c.requires in
    record { remembered = p.remembered; own_open = record { refines = p.refined_by; any = sym c.own_choice.ensures ∙ c.in_default.is }; limits = tt; frame_value = (p.frame_value, omega arith) }

pub shape_of-memory-in_default : goal.shape_of-memory-in_default
shape_of-memory-in_default c = c.refine_own.ensures.remembered.size ∙ sym c.requires.remembered.size

pub returns-in_default : goal.returns-in_default
returns-in_default c = record { value = settled-test c.args.claim _ _ c.refine_own.ensures.settles; remembered = c.refine_own.ensures.remembered }

-- the choices are as many as the groups
long : (s : Start) → length s.args.choices ≡ 16
long s = search rules

-- k's group is one of the groups
group : (s : Start) → let k = s.args.setting.now.target.frame in (1 ≤ k.group) × (k.group ≤ 16)
group s = own-group s.args.setting.now.posed.prepared.filled.table (listed s.args.setting.now)

-- the own group stands at an alignment
fixed : (c : In-Fixed) → (a : ℕ) × (choice_of c.args.choices c.args.setting.now.target.frame.group ≡ Fixed a)
fixed c = (c.in-Fixed.a, sym c.own_choice.ensures ∙ c.in-Fixed.is)

-- which it takes once more
again : (c : In-Fixed) → set c.args.choices (c.args.setting.now.target.frame.group - 1) (Fixed c.in-Fixed.a) ≡ c.args.choices
again c =
    let n = own-group c.args.setting.now.posed.prepared.filled.table (listed c.args.setting.now) in
    let many : length c.args.choices ≡ 16 = search rules in
    own-again c.args.setting.now.target.frame c.args.choices (n.0, omega (arith, n.1, many)) (sym c.own_choice.ensures ∙ c.in-Fixed.is)

pub reach_of-reach-requires : goal.reach_of-reach-requires
reach_of-reach-requires c =
    let p = c.requires in
    record { remembered = p.remembered; limits = tt; by_index = refined-window c.args.setting.now.posed.prepared.filled.table (listed c.args.setting.now) _ c.args.choices (long (goal.at.reach_of-reach-requires c).Start) p.refined_by p.frame_value (fixed (goal.at.reach_of-reach-requires c).In-Fixed) }

pub refine-requires : goal.refine-requires
refine-requires c =
    record { remembered = c.reach_of-reach.ensures.remembered; le_group = group (goal.at.refine-requires c).Start; own_fixed = subst (OwnFixed c.args.setting.now.target.frame) (sym (again (goal.at.refine-requires c).In-Fixed)) (fixed (goal.at.refine-requires c).In-Fixed); reaches = subst (λ (cs : List Choice). Reaches c.args.setting.now.target.faults (frames c.args.setting.now) c.args.setting.now.target.frame cs c.args.claim c.reach_of-reach.result) (sym (again (goal.at.refine-requires c).In-Fixed)) (c.reach_of-reach.ensures.by_index c.args.claim) }

pub shape_of-memory : goal.shape_of-memory
shape_of-memory c = c.refine.ensures.remembered.size ∙ sym c.requires.remembered.size

pub returns : goal.returns
returns c =
    record { value = settled-test c.args.claim _ _ c.refine.ensures.settles ∙ ap (λ (cs : List Choice). ltb c.args.claim (fixing_more c.args.setting.now.target.faults (frames c.args.setting.now) c.args.setting.now.target.frame 16 cs)) (again (goal.at.returns c).In-Fixed); remembered = c.refine.ensures.remembered }
