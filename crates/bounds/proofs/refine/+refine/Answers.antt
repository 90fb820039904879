-- Where the search ends it has the scenario's own response, or one that is above `enough`; else what it finds is the greatest over the next
-- group's alignments, each with one group more fixed, and that is the greatest with one group more.
use Rattle.std.proofs.Common.{◌≡◌, ℕ, suc, ◌-◌, ◌≤◌, min, max, List, length, set, refl, sym, ap, subst, ◌∙◌, arith, rules}
use mathlib.Core.List.{Memᴰ as Mem}
use Rattle.arith.specs.Lists.{greatest}
use Rattle.arith.specs.Laws.Walks.{walk-less}
use Rattle.bus_model.specs.declared.Choice.{Choice}
use Rattle.bus_model.specs.declared.Choice.TheVariants.{Fixed}
use Rattle.bus_model.specs.Bounds.{alignments, or_empty, scenario_response}
use Rattle.bus_model.specs.Theory.OpenGroups.{fixing_more}
use Rattle.bus_model.proofs.Theory.Turns.{first_turn, turn-le}
use Rattle.workload.proofs.Laws.Fine.{in-table-fine}
use Rattle.greatest_work.specs.Setting.{frames, listed, ready}
use Rattle.response_time.specs.Load.{OwnFixed, Reaches}
use Rattle.response_time.specs.Laws.Within.{reach-more, reach-none}
use Rattle.bounds.specs.Search.{Settles}
use Rattle.bounds.specs.Laws.Search.{Best, best-first, best-more, best-end, best-over, best-above, open-group, open_more, open-end, open_none, open-pruned, next-own, next-reach}
use Rattle.bounds.proofs.refine.+refine.Goals as goal
use Rattle.bounds.proofs.refine.+refine.Goals.{After-with_choice-choices, In-Some, After-unwrap_or-a, Else-enough-more}

-- there are as many choices as groups
long : (t : ℕ) (c : After-with_choice-choices t) → length c.with_choice-choices.result ≡ 16
long t c = search rules

-- the scenario is what is asked for
own : (t : ℕ) (c : After-with_choice-choices t) → OwnFixed c.args.setting.now.target.frame c.with_choice-choices.result
own t c = subst (OwnFixed c.args.setting.now.target.frame) (sym c.with_choice-choices.ensures) c.requires.own_fixed

known : (t : ℕ) (c : After-with_choice-choices t) → let x = c.args in let fs = frames x.setting.now in let k = x.setting.now.target.frame in
    Reaches x.setting.now.target.faults fs k c.with_choice-choices.result x.known.best x.known.reach
known t c =
    let x = c.args in
    subst (λ (cs : List Choice). Reaches x.setting.now.target.faults (frames x.setting.now) x.setting.now.target.frame cs x.known.best x.known.reach) (sym c.with_choice-choices.ensures) c.requires.reaches

told : (t : ℕ) (c : After-with_choice-choices t) (r : ℕ) → let x = c.args in let fs = frames x.setting.now in let k = x.setting.now.target.frame in
    Settles x.enough (max x.known.best (fixing_more x.setting.now.target.faults fs k x.left c.with_choice-choices.result)) r → Settles x.enough (max x.known.best (fixing_more x.setting.now.target.faults fs k x.left (set x.coarser (x.fixing.group - 1) (Fixed x.fixing.alignment)))) r
told t c r found =
    let x = c.args in
    subst (λ (cs : List Choice). Settles x.enough (max x.known.best (fixing_more x.setting.now.target.faults (frames x.setting.now) x.setting.now.target.frame x.left cs)) r) c.with_choice-choices.ensures found

pub returns-then-is_deepest-clause-settles : goal.returns-then-is_deepest-clause-settles
returns-then-is_deepest-clause-settles t c =
    let p = (ready c.args.setting.now c.requires.remembered) in
    let w = (goal.at.returns-then-is_deepest-clause-settles t c).After-with_choice-choices in
    let x = c.args in
    let fs = frames x.setting.now in
    let cs = c.with_choice-choices.result in
    let end : fixing_more x.setting.now.target.faults fs x.setting.now.target.frame x.left cs ≡ scenario_response x.setting.now.target.faults fs x.setting.now.target.frame cs = rw c.if-is_deepest.true (open-end p.prepared.filled.table p.listed cs (long t w) _) in
    told t w _ (ap (min (suc x.enough)) (c.max_with_scenario.ensures.value ∙ ap (max x.known.best) (sym end)))

pub returns-in_default-clause-settles : goal.returns-in_default-clause-settles
returns-in_default-clause-settles t c =
    let p = (ready c.args.setting.now c.requires.remembered) in
    let w = (goal.at.returns-in_default-clause-settles t c).After-with_choice-choices in
    told t w _ (ap (min (suc c.args.enough)) (c.max_with_scenario-in_default.ensures.value ∙ ap (max c.args.known.best) (sym (open_none p.prepared.filled.table p.listed c.with_choice-choices.result (long t w) _ c.args.left (sym c.next_open.ensures ∙ c.in_default.is)))))

pub next_open-requires : goal.next_open-requires
next_open-requires t c = in-table-fine _ c.args.setting.now.posed.prepared.filled.table (listed c.args.setting.now)

-- the next group is one of the groups,
group : (t : ℕ) (c : In-Some t) → (1 ≤ c.in-Some.group) × (c.in-Some.group ≤ 16)
group t c =
    let p = (ready c.args.setting.now c.requires.remembered) in
    let many : length c.with_choice-choices.result ≡ 16 = search rules in
    open-group p.prepared.filled.table p.listed c.with_choice-choices.result many (sym c.next_open.ensures ∙ c.in-Some.is)

-- and one group less is left
fewer : (t : ℕ) (c : In-Some t) → suc (c.args.left - 1) ≡ c.args.left
fewer t c = omega arith

-- the greatest over its alignments is that with one group more
whole : (t : ℕ) (c : In-Some t) → let x = c.args in let fs = frames x.setting.now in let k = x.setting.now.target.frame in
    greatest (λ b. fixing_more x.setting.now.target.faults fs k (x.left - 1) (set c.with_choice-choices.result (c.in-Some.group - 1) (Fixed b))) (or_empty (first_turn fs k c.in-Some.group)) ≡ fixing_more x.setting.now.target.faults fs k x.left c.with_choice-choices.result
whole t c =
    let p = (ready c.args.setting.now c.requires.remembered) in
    let many : length c.with_choice-choices.result ≡ 16 = search rules in
    rw (fewer t c) at (open_more p.prepared.filled.table p.listed c.with_choice-choices.result many c.args.setting.now.target.faults (c.args.left - 1) (sym c.next_open.ensures ∙ c.in-Some.is))

-- what the search knows it knows with one of the group's alignments
deeper : (t : ℕ) (c : In-Some t) {a most reach : ℕ} → let x = c.args in let fs = frames x.setting.now in let k = x.setting.now.target.frame in let cs = set c.with_choice-choices.result (c.in-Some.group - 1) (Fixed a) in
    OwnFixed k c.with_choice-choices.result → Mem a (or_empty (alignments fs k c.in-Some.group)) → Reaches x.setting.now.target.faults fs k c.with_choice-choices.result most reach → OwnFixed k cs × Reaches x.setting.now.target.faults fs k cs most reach
deeper t c fixed listed left =
    let p = (ready c.args.setting.now c.requires.remembered) in
    let table = p.prepared.filled.table in
    let next = sym c.next_open.ensures ∙ c.in-Some.is in
    let many : length c.with_choice-choices.result ≡ 16 = search rules in
    (next-own table p.listed c.with_choice-choices.result many next listed refl fixed, next-reach table p.listed c.with_choice-choices.result many next listed refl fixed left)

pub next_of-requires : goal.next_of-requires
next_of-requires t c = let n = group t (goal.at.next_of-requires t c).In-Some in record { prepared = c.args.setting.now.posed.prepared; le_group = (n.0, n.1, omega arith) }

-- the walk stands at its first alignment
first : (t : ℕ) (c : After-unwrap_or-a t) → let x = c.args in let fs = frames x.setting.now in let k = x.setting.now.target.frame in
    Best fs k c.in-Some.group (λ b. fixing_more x.setting.now.target.faults fs k (x.left - 1) (set c.with_choice-choices.result (c.in-Some.group - 1) (Fixed b))) x.known.best x.known.best c.unwrap_or-a.result
first t c = best-first _ _ _ _ c.args.setting.now.posed.prepared.filled.table.valid c.next_of.result c.next_of.ensures c.unwrap_or-a.ensures

pub is_last-asked-requires : goal.is_last-asked-requires
is_last-asked-requires t c =
    let n = group t (goal.at.is_last-asked-requires t c).In-Some in
    record { prepared = c.args.setting.now.posed.prepared; le_group = (n.0, n.1, (first t (goal.at.is_last-asked-requires t c).After-unwrap_or-a).walk.inside) }

pub alignments-init : goal.alignments-init
alignments-init t c =
    (first t (goal.at.alignments-init t c).After-unwrap_or-a, omega arith, known t (goal.at.alignments-init t c).After-with_choice-choices, c.requires.remembered)

pub reach_now-rest-requires-clause-remembered : goal.reach_now-rest-requires-clause-remembered
reach_now-rest-requires-clause-remembered t c = c.alignments.invariant.3

pub reach_now-rest-requires-clause-own_fixed : goal.reach_now-rest-requires-clause-own_fixed
reach_now-rest-requires-clause-own_fixed t c = own t (goal.at.reach_now-rest-requires-clause-own_fixed t c).After-with_choice-choices

pub reach_now-rest-requires-clause-reaches : goal.reach_now-rest-requires-clause-reaches
reach_now-rest-requires-clause-reaches t c = c.alignments.invariant.2

pub returns-then-is_shown-clause-settles : goal.returns-then-is_shown-clause-settles
returns-then-is_shown-clause-settles t c =
    let p = (ready c.args.setting.now c.requires.remembered) in
    let w = (goal.at.returns-then-is_shown-clause-settles t c).After-with_choice-choices in
    let none = reach-none _ _ _ _ (rw c.if-is_shown.true at c.reach_now-rest.ensures.reaches) in
    let pruned = open-pruned p.prepared.filled.table p.listed c.with_choice-choices.result (long t w) (own t w) (known t w) c.args.left in
    told t w _ (ap (min (suc c.args.enough)) (best-over _ _ _ _ c.alignments.invariant.0 c.alignments.invariant.1 (whole t (goal.at.returns-then-is_shown-clause-settles t c).In-Some) (omega (arith, none, pruned))))

pub refine-more-requires : goal.refine-more-requires
refine-more-requires t c =
    let w = (goal.at.refine-more-requires t c).After-with_choice-choices in
    let i = (goal.at.refine-more-requires t c).In-Some in
    let (fixed, left) = deeper t i (own t w) c.alignments.invariant.0.listed c.reach_now-rest.ensures.reaches in
    (omega (arith, c.decreases, fewer t i), (c.reach_now-rest.ensures.remembered, (group t i, (fixed, left))))

pub returns-then-enough-more-clause-settles : goal.returns-then-enough-more-clause-settles
returns-then-enough-more-clause-settles t c =
    told t (goal.at.returns-then-enough-more-clause-settles t c).After-with_choice-choices _
    (best-above _ _ _ _ c.alignments.invariant.0 (whole t (goal.at.returns-then-enough-more-clause-settles t c).In-Some) c.refine-more.ensures.settles c.if-enough-more.true)

-- what is not above `enough` is the greatest
exact : (t : ℕ) (c : Else-enough-more t) → let x = c.args in
    c.refine-more.result ≡ max c.alignments.most (fixing_more x.setting.now.target.faults (frames x.setting.now) x.setting.now.target.frame (x.left - 1) (set c.with_choice-choices.result (c.in-Some.group - 1) (Fixed c.alignments.a)))
exact t c = omega (arith, c.refine-more.ensures.settles, c.if-enough-more.false)

pub overflow_add-a : goal.overflow_add-a
overflow_add-a t c =
    let n = group t (goal.at.overflow_add-a t c).In-Some in
    let table = c.args.setting.now.posed.prepared.filled.table in
    omega (arith, c.alignments.invariant.0.walk.inside, table.hyper _ n.0 n.1, turn-le table.valid c.args.setting.now.target.frame c.in-Some.group)

pub next_of-requires-in-alignments : goal.next_of-requires-in-alignments
next_of-requires-in-alignments t c =
    let n = group t (goal.at.next_of-requires-in-alignments t c).In-Some in
    record { prepared = c.args.setting.now.posed.prepared; le_group = (n.0, n.1, omega (arith, c.alignments.invariant.0.walk.inside)) }

pub returns-in_default-next_of-clause-settles : goal.returns-in_default-next_of-clause-settles
returns-in_default-next_of-clause-settles t c =
    told t (goal.at.returns-in_default-next_of-clause-settles t c).After-with_choice-choices _ (ap (min (suc c.args.enough)) (best-end _ _ _ _ c.alignments.invariant.0 (exact t (goal.at.returns-in_default-next_of-clause-settles t c).Else-enough-more) (sym c.next_of-in-alignments.ensures ∙ c.in_default-next_of.is)
    ∙ ap (max c.args.known.best) (whole t (goal.at.returns-in_default-next_of-clause-settles t c).In-Some)))

pub alignments-smaller : goal.alignments-smaller
alignments-smaller t c = walk-less _ _ _ _ _ c.alignments.invariant.0.walk (sym c.next_of-in-alignments.ensures ∙ c.in-Some-next_of.is)

pub alignments-preserved : goal.alignments-preserved
alignments-preserved t c =
    let is = exact t (goal.at.alignments-preserved t c).Else-enough-more in (
      best-more _ _ _ _ c.alignments.invariant.0 is c.args.setting.now.posed.prepared.filled.table.valid (sym c.next_of-in-alignments.ensures ∙ c.in-Some-next_of.is),
      omega (arith, c.alignments.invariant.1, is),
      reach-more (omega (arith, is)) c.reach_now-rest.ensures.reaches,
      c.refine-more.ensures.remembered,
    )
