use Prim.Native.Nat.{suc, ◌-◌, ◌≤◌, min, max}
use mathlib.Core.Path.{◌≡◌, refl, sym, ap, ◌∙◌}
use native.Mathlib.Omega.{arith}
use borrow.Author.Rules.{rules}
use lib.ListN.{length, set}
use Rattle.arith.specs.Lists.{greatest}
use Rattle.arith.specs.Laws.Least.{least-within}
use Rattle.bus_model.specs.declared.Choice.TheVariants.{Fixed}
use Rattle.bus_model.specs.Bounds.{phase, or_empty}
use Rattle.bus_model.specs.Theory.OpenGroups.{fixing_more}
use Rattle.bus_model.proofs.Theory.Turns.{first_turn, turn-le}
use Rattle.workload.proofs.Laws.Fine.{in-table-fine}
use Rattle.greatest_work.specs.Setting.{frames, ready, listed}
use Rattle.bounds.specs.Laws.Search.{from_more, from-end, from-above, own-group, own_first, own-next, own-set, own-limits, own-window, open_more}
use Rattle.bounds.proofs.refine.refine_own.Goals as goal
use Rattle.bounds.proofs.refine.refine_own.Goals.{Else-enough-most, Start}

-- k's group is one of the groups
group : (s : Start) → let k = s.args.setting.now.target.frame in (1 ≤ k.group) × (k.group ≤ 16)
group s = own-group s.args.setting.now.posed.prepared.filled.table (listed s.args.setting.now)

-- the choices are as many as the groups
long : (s : Start) → length s.args.choices ≡ 16
long s = search rules

pub nonzero_rem-a : goal.nonzero_rem-a
nonzero_rem-a c = let p = (ready c.args.setting.now c.requires.remembered) in (in-table-fine _ p.prepared.filled.table p.listed).period-low

pub loop-most-init : goal.loop-most-init
unfolding phase
loop-most-init c =
    let p = c.requires in
    (own_first c.args.setting.now.posed.prepared.filled.table (listed c.args.setting.now) c.args.choices (long (goal.at.loop-most-init c).Start) p.own_open c.args.setting.now.target.faults (c.args.left - 1), p.remembered)

pub with_choice-finer-requires : goal.with_choice-finer-requires
with_choice-finer-requires c = group (goal.at.with_choice-finer-requires c).Start

pub reach_of-reach-requires : goal.reach_of-reach-requires
reach_of-reach-requires c =
    let p = c.requires in
    let t = c.args.setting.now.posed.prepared.filled.table in
    record { remembered = c.loop-most.invariant.1; limits = own-limits t (listed c.args.setting.now) c.args.choices (long (goal.at.reach_of-reach-requires c).Start) p.own_open c.loop-most.invariant.0.listed c.with_choice-finer.ensures c.args.setting.now.target.faults c.args.limit p.limits; by_index = own-window t (listed c.args.setting.now) c.args.choices (long (goal.at.reach_of-reach-requires c).Start) p.own_open c.loop-most.invariant.0.listed c.with_choice-finer.ensures c.args.setting.now.target.faults p.frame_value.0 }

pub refine-most-requires : goal.refine-most-requires
refine-most-requires c =
    let p = c.requires in
    record { remembered = c.reach_of-reach.ensures.remembered; le_group = group (goal.at.refine-most-requires c).Start; own_fixed = own-set c.args.setting.now.posed.prepared.filled.table (listed c.args.setting.now) c.args.choices (long (goal.at.refine-most-requires c).Start) p.own_open c.loop-most.invariant.0.listed refl; reaches = rw (← c.with_choice-finer.ensures) (c.reach_of-reach.ensures.by_index c.loop-most.most) }

-- the greatest over the alignments is that with one group more
whole : (s : Start) → let x = s.args in let fs = frames x.setting.now in let k = x.setting.now.target.frame in
    greatest (λ b. fixing_more x.setting.now.target.faults fs k (x.left - 1) (set x.choices (k.group - 1) (Fixed b))) (or_empty (first_turn fs k k.group)) ≡ fixing_more x.setting.now.target.faults fs k x.left x.choices
whole s =
    let p = s.requires in
    let fewer : suc (s.args.left - 1) ≡ s.args.left = omega (arith, p.frame_value.1) in
    let t = s.args.setting.now.posed.prepared.filled.table in
    let k = listed s.args.setting.now in
    rw fewer at (open_more t k s.args.choices (long s) s.args.setting.now.target.faults (s.args.left - 1) (own-next t k s.args.choices (long s) p.own_open))

pub shape_of-memory-then-enough-most : goal.shape_of-memory-then-enough-most
shape_of-memory-then-enough-most c = c.refine-most.ensures.remembered.size ∙ sym c.requires.remembered.size

pub returns-then-enough-most : goal.returns-then-enough-most
returns-then-enough-most c = record { settles = from-above _ _ _ _ c.loop-most.invariant.0 (whole (goal.at.returns-then-enough-most c).Start) c.refine-most.ensures.settles c.if-enough-most.true; remembered = c.refine-most.ensures.remembered }

-- what is not above `enough` is the greatest
exact : (c : Else-enough-most) → let x = c.args in let k = x.setting.now.target.frame in
    c.refine-most.result ≡ max c.loop-most.most (fixing_more x.setting.now.target.faults (frames x.setting.now) k (x.left - 1) (set x.choices (k.group - 1) (Fixed c.loop-most.a)))
exact c = omega (arith, c.refine-most.ensures.settles, c.if-enough-most.false)

pub next_of-requires : goal.next_of-requires
next_of-requires c = let n = group (goal.at.next_of-requires c).Start in record { prepared = c.args.setting.now.posed.prepared; le_group = (n.0, n.1, c.loop-most.invariant.0.inside) }

pub shape_of-memory-in_default : goal.shape_of-memory-in_default
shape_of-memory-in_default c = c.refine-most.ensures.remembered.size ∙ sym c.requires.remembered.size

pub returns-in_default : goal.returns-in_default
returns-in_default c =
    record { settles = ap (min (suc c.args.enough)) (from-end _ _ _ _ c.loop-most.invariant.0 (exact (goal.at.returns-in_default c).Else-enough-most) (sym c.next_of.ensures ∙ c.in_default.is) ∙ ap (max c.args.best) (whole (goal.at.returns-in_default c).Start)); remembered = c.refine-most.ensures.remembered }

pub overflow_add-after : goal.overflow_add-after
overflow_add-after c =
    let n = group (goal.at.overflow_add-after c).Start in
    let t = c.args.setting.now.posed.prepared.filled.table in
    let (low, high, passed) = least-within _ _ (sym c.next_of.ensures ∙ c.in-Some.is) in
    omega (arith, t.hyper _ n.0 n.1, turn-le t.valid c.args.setting.now.target.frame c.args.setting.now.target.frame.group)

pub loop-most-smaller : goal.loop-most-smaller
loop-most-smaller c = let (low, high, passed) = least-within _ _ (sym c.next_of.ensures ∙ c.in-Some.is) in omega arith

pub loop-most-preserved : goal.loop-most-preserved
loop-most-preserved c =
    (from_more _ _ _ _ c.loop-most.invariant.0 (exact (goal.at.loop-most-preserved c).Else-enough-most) c.args.setting.now.posed.prepared.filled.table.valid (sym c.next_of.ensures ∙ c.in-Some.is), c.refine-most.ensures.remembered)
