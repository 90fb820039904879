-- By their priorities.
use native.Mathlib.Omega.{arith}
use Rattle.worst_case.specs.Laws.Last.{later_second, later_first}
use Rattle.worst_case.proofs.last.later.Goals as goal

pub returns-then-first-second : goal.returns-then-first-second
returns-then-first-second c = later_second _ c.args.a c.args.b c.frame-first.ensures c.frame-second.ensures c.if-first-second.true

pub returns-else-first-second : goal.returns-else-first-second
returns-else-first-second c = later_first _ c.args.a c.args.b c.frame-first.ensures c.frame-second.ensures (omega (arith, c.if-first-second.false))
