-- Where it is shown of all instances, `best` stays; elsewhere the window is taken, and the greatest response in it.
use Prim.Native.Nat.{max}
use mathlib.Core.Path.{sym, ap, ◌∙◌}
use native.Mathlib.Omega.{arith}
use Rattle.bus_model.proofs.Theory.Response.{response-at, response-none}
use Rattle.response_time.specs.Laws.Within.{reach-none}
use Rattle.response_time.proofs.response.max_with_scenario.Goals as goal

pub returns-then-reach-eq0 : goal.returns-then-reach-eq0
returns-then-reach-eq0 c = record { value = omega (arith, reach-none _ _ _ _ (rw c.if-reach-eq0.true at c.requires.reaches)); remembered = c.requires.remembered }

pub shape_of-memory-then-sweep-eq0 : goal.shape_of-memory-then-sweep-eq0
shape_of-memory-then-sweep-eq0 c = c.sweep.ensures.remembered.size ∙ sym c.requires.remembered.size

pub returns-then-sweep-eq0 : goal.returns-then-sweep-eq0
returns-then-sweep-eq0 c = record { value = omega (arith, reach-none _ _ _ _ (rw c.if-sweep-eq0.true at c.sweep.ensures.reaches)); remembered = c.sweep.ensures.remembered }

pub busy_window-requires : goal.busy_window-requires
busy_window-requires c = c.sweep.ensures.remembered

pub shape_of-memory-in_default : goal.shape_of-memory-in_default
shape_of-memory-in_default c = c.busy_window.ensures.remembered.size ∙ sym c.requires.remembered.size

pub returns-in_default : goal.returns-in_default
returns-in_default c =
    let none = response-none _ _ _ _ (sym c.busy_window.ensures.value ∙ c.in_default.is) in
    record { value = omega (arith, none); remembered = c.busy_window.ensures.remembered }

pub max_with_window-requires : goal.max_with_window-requires
max_with_window-requires c = record { remembered = c.busy_window.ensures.remembered; own_fixed = c.requires.own_fixed; choices_value = sym c.busy_window.ensures.value ∙ c.in-Some.is }

pub shape_of-memory : goal.shape_of-memory
shape_of-memory c = c.max_with_window.ensures.remembered.size ∙ sym c.requires.remembered.size

pub returns : goal.returns
returns c =
    let is = response-at _ _ _ _ _ (sym c.busy_window.ensures.value ∙ c.in-Some.is) in
    record { value = c.max_with_window.ensures.value ∙ ap (max c.args.best) (sym is); remembered = c.max_with_window.ensures.remembered }
