use Prim.Native.Nat.{◌-◌, ◌≤◌, ◌<◌}
use mathlib.Core.Path.{◌≡◌, refl, sym, ◌∙◌}
use native.Mathlib.Omega.{arith}
use borrow.Author.Rules.{rules}
use Rattle.arith.specs.Laws.Least.{least-within, least-end}
use Rattle.arith.specs.Least.{least}
use Rattle.greatest_work.specs.Setting.{frames}
use Rattle.response_time.specs.Load.{holds}
use Rattle.response_time.specs.Laws.Searches.{climb-here, climb-skip, climb-beyond, finer-skip, finer-beyond}
use Rattle.response_time.proofs.search.fixed_point.Goals as goal
use Rattle.response_time.proofs.search.fixed_point.Goals.{In_ok-y}

pub loop-x-init : goal.loop-x-init
loop-x-init c = (refl, c.requires.remembered, refl)

pub returns-in_err-y-clause-value : goal.returns-in_err-y-clause-value
returns-in_err-y-clause-value c =
    let (finer, refines, is) = c.climb_guessed.ensures in
    c.from_residual.ensures ∙ finer-beyond c.args.setting.now.target.faults c.args.setting.now.posed.prepared.filled.table.valid c.args.setting.now.target.frame _ _ refines _ c.args.end c.loop-x.x is c.in_err-y.was ∙ c.loop-x.invariant.0

-- where the number lies that is found with guesses
within : (c : In_ok-y) → (c.loop-x.x ≤ c.in_ok-y.y) × (c.in_ok-y.y < c.args.end)
within c = let (low, high, t) = least-within _ _ (sym c.climb_guessed.ensures.2 ∙ c.in_ok-y.was) in (low, high)

-- what is found from there on is what is found
goes_on : (c : In_ok-y) →
    let a = c.args in
    let p = holds a.setting.now.target.faults (frames a.setting.now) a.setting.now.target.frame a.choices a.search in
    let y = c.in_ok-y.y in
    least p (a.end - y) y ≡ least p (a.end - a.from) a.from
goes_on c =
    let (finer, refines, is) = c.climb_guessed.ensures in
    sym (finer-skip c.args.setting.now.target.faults c.args.setting.now.posed.prepared.filled.table.valid c.args.setting.now.target.frame _ _ refines _ c.args.end c.loop-x.x is c.in_ok-y.was) ∙ c.loop-x.invariant.0

pub load-needed-requires : goal.load-needed-requires
load-needed-requires c = record { remembered = c.loop-x.invariant.1; asked = c.requires.asked; x_bound = omega (arith, c.requires.end_bound, within (goal.at.load-needed-requires c).In_ok-y) }

pub returns-then-needed-y : goal.returns-then-needed-y
returns-then-needed-y c =
    record { value = climb-here c.args.setting.now.target.faults c.args.setting.now.posed.prepared.filled.table.valid _ _ _ c.args.end c.in_ok-y.y c.load-needed.ensures.value (within (goal.at.returns-then-needed-y c).In_ok-y).1 c.if-needed-y.true ∙ goes_on (goal.at.returns-then-needed-y c).In_ok-y; remembered = c.load-needed.ensures.remembered }

pub returns-then-end-needed : goal.returns-then-end-needed
returns-then-end-needed c =
    record { value = climb-beyond c.args.setting.now.target.faults c.args.setting.now.posed.prepared.filled.table.valid _ _ _ c.args.end c.in_ok-y.y c.load-needed.ensures.value c.if-end-needed.true ∙ goes_on (goal.at.returns-then-end-needed c).In_ok-y; remembered = c.load-needed.ensures.remembered }

pub overflow_cast-x : goal.overflow_cast-x
overflow_cast-x c = omega (arith, c.requires.end_bound, c.if-end-needed.false)

pub loop-x-smaller : goal.loop-x-smaller
loop-x-smaller c = omega (arith, within (goal.at.loop-x-smaller c).In_ok-y, c.if-needed-y.false, c.if-end-needed.false)

pub loop-x-preserved : goal.loop-x-preserved
loop-x-preserved c =
    (sym (climb-skip c.args.setting.now.target.faults c.args.setting.now.posed.prepared.filled.table.valid _ _ _ c.args.end c.in_ok-y.y c.load-needed.ensures.value c.if-needed-y.false (omega (arith, c.if-end-needed.false))) ∙ goes_on (goal.at.loop-x-preserved c).In_ok-y, c.load-needed.ensures.remembered, search rules)

pub returns : goal.returns
returns c = record { value = sym (least-end _ _ c.loop-x.x c.loop-x-test.false) ∙ c.loop-x.invariant.0; remembered = c.loop-x.invariant.1 }
