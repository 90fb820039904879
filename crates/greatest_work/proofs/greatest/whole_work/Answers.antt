use Prim.Native.Nat.{ℕ, ◌+◌}
use mathlib.Core.Path.{◌∙◌, ap, sym}
use native.Mathlib.Omega.{arith}
use native.Mathlib.Nat.{zero-add, add-zero}
use Rattle.arith.specs.Lists.{sum}
use Rattle.arith.specs.Laws.Walks.{count-more, count-end, sum_more}
use Rattle.bus_model.specs.Pattern.{of_group}
use Rattle.bus_model.specs.Bounds.{work, ahead, alignments, choice_of, group_work}
use Rattle.workload.proofs.Laws.Groups.{read-choice}
use Rattle.greatest_work.specs.Setting.{frames}
use Rattle.greatest_work.proofs.greatest.whole_work.Goals as goal

pub loop-j-init : goal.loop-j-init
unfolding work
loop-j-init c = (record { inside = omega arith; is = zero-add _ }, omega arith, c.requires.remembered)

pub group_work-sum-requires : goal.group_work-sum-requires
group_work-sum-requires c = record { remembered = c.loop-j.invariant.2; j_bound = (c.loop-j-test.true, c.requires.n_bound) }

pub loop-j-preserved : goal.loop-j-preserved
loop-j-preserved c =
    let l = c.loop-j in
    let r = c.group_work-sum.ensures in
    let less = c.loop-j-test.true in
    let is = rw (read-choice l.j c.args.choices) at r.value in
    let fs = frames c.args.setting.now in
    let k = c.args.setting.now.target.frame in
    let term : ℕ = group_work (of_group (ahead fs k) (l.j + 1)) (alignments fs k (l.j + 1)) (choice_of c.args.choices (l.j + 1)) c.args.n in (
      count-more _ _ _ _ l.invariant.0 (omega (arith, less)) (sum_more _ l.sum (l.j + 1) (ap (λ (w : ℕ). l.sum + w) {y = term} is)),
      omega (arith, l.invariant.1, r.small),
      r.remembered,
    )

pub shape_of-memory : goal.shape_of-memory
shape_of-memory c = c.loop-j.invariant.2.size ∙ sym c.requires.remembered.size

pub returns : goal.returns
unfolding sum
returns c =
    let l = c.loop-j in
    record { value = sym (add-zero _) ∙ count-end _ _ _ _ l.invariant.0 (omega (arith, c.loop-j-test.false)); small = omega (arith, l.invariant.1, l.invariant.0.inside); remembered = l.invariant.2 }
