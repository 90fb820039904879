use Prim.Native.Nat.{◌+◌}
use mathlib.Core.Path.{◌≡◌, refl, sym, ap, ◌∙◌}
use native.Mathlib.Omega.{arith}
use Rattle.arith.specs.Laws.Least.{least-here, least-end, least_skip}
use Rattle.bus_model.specs.Theory.OpenGroups.{is_any, is_open, next_open}
use Rattle.workload.proofs.Laws.Groups.{read-choice}
use Rattle.bounds.proofs.alignments.next_open.Goals as goal
use Rattle.bounds.proofs.alignments.next_open.Goals.{After-is_open, After-is_open-in-loop-j}

-- what is asked of k's own group
own_is : (c : After-is_open) → c.is_open.result ≡ is_open c.args.choices c.args.k.group
own_is c = c.is_open.ensures ∙ ap is_any c.own_choice.ensures

pub returns-then-is_open : goal.returns-then-is_open
unfolding next_open
returns-then-is_open c = rw (sym (own_is (goal.at.returns-then-is_open c).After-is_open) ∙ c.if-is_open.true)

pub loop-j-init : goal.loop-j-init
loop-j-init c = refl

-- what is asked of the group that the loop stands at
group-is : (c : After-is_open-in-loop-j) → c.is_open-in-loop-j.result ≡ is_open c.args.choices (c.loop-j.j + 1)
group-is c =
    let a = c.args in
    c.is_open-in-loop-j.ensures ∙ ap is_any (read-choice c.loop-j.j a.choices)

pub returns-then-is_open-2 : goal.returns-then-is_open-2
unfolding next_open
returns-then-is_open-2 c =
    let l = c.loop-j in
    rw (sym (own_is (goal.at.returns-then-is_open-2 c).After-is_open) ∙ c.if-is_open.false) (sym (least-here (is_open c.args.choices) 17 (l.j + 1) (omega (arith, c.loop-j-test.true)) (rw (← group-is (goal.at.returns-then-is_open-2 c).After-is_open-in-loop-j, c.if-is_open-2.true) tt)) ∙ l.invariant)

pub loop-j-preserved : goal.loop-j-preserved
loop-j-preserved c =
    let l = c.loop-j in
    sym (least_skip (is_open c.args.choices) 17 (l.j + 1) (l.j + 1 + 1) (omega arith) (omega (arith, c.loop-j-test.true)) (λ i low high t. let same : i ≡ l.j + 1 = omega arith in rw (same, ← group-is (goal.at.loop-j-preserved c).After-is_open-in-loop-j, c.if-is_open-2.false) at t)) ∙ l.invariant

pub returns : goal.returns
unfolding next_open
returns c =
    let l = c.loop-j in
    rw (sym (own_is (goal.at.returns c).After-is_open) ∙ c.if-is_open.false) (sym (least-end (is_open c.args.choices) 17 (l.j + 1) (omega (arith, c.loop-j-test.false))) ∙ l.invariant)
