use mathlib.Core.Path.{◌≡◌, refl, ◌∙◌}
use Prim.Native.Nat.{suc, ◌+◌, ◌-◌}
use native.Mathlib.Omega.{arith}
use Rattle.simulator.specs.Starts.{starts_drawn}
use Rattle.simulator.proofs.drawing.draw_starts.Goals as goal

pub loop-group-init : goal.loop-group-init
unfolding starts_drawn
loop-group-init c = refl

pub loop-group-preserved : goal.loop-group-preserved
unfolding starts_drawn
loop-group-preserved c =
    let l = c.loop-group in
    let next : l.group + 1 - 1 ≡ suc (l.group - 1) = omega arith in
    let same : suc (l.group - 1) ≡ l.group = omega arith in
    c.draw_start-d.ensures ∙ rw (next, l.invariant, same)

pub returns : goal.returns
returns c =
    let all : c.loop-group.group ≡ 17 = omega arith in
    rw all at c.loop-group.invariant
