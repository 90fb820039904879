-- The releases before the alignment, none where it is the offset or before.
use Prim.Native.Nat.{◌+◌, ◌-◌}
use native.Mathlib.Omega.{arith}
use native.Mathlib.Nat.{div-le_self}
use mathlib.Core.Path.{refl}
use Rattle.arith.specs.Releases.{releases_before}
use Rattle.bus_model.specs.Worst.{instance_from}
use Rattle.worst_case.specs.Laws.Starts.{none-released}
use Rattle.worst_case.proofs.starts.instance_from.Goals as goal

pub returns-then-alignment-frame : goal.returns-then-alignment-frame
returns-then-alignment-frame c = none-released _ _ c.args.q c.requires.0 c.if-alignment-frame.true

pub overflow_add-result-2 : goal.overflow_add-result-2
overflow_add-result-2 c =
    let a = c.args in
    let p = c.requires in
    record { fits = omega (arith, p.1, p.2, div-le_self (a.alignment - a.frame.offset + (a.frame.period - 1)) a.frame.period) }

pub returns : goal.returns
unfolding instance_from releases_before
returns c = refl
