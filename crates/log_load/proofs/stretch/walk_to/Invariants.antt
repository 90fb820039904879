-- `log_load::stretch::walk_to` meets its contract: the lines gone past end by the tick.
use Rattle.log_load.specs.Log.{lines}
use Rattle.log_load.specs.Steps.{Walked}
use Rattle.log_load.proofs.stretch.walk_to.Given as goal

abbrev pub invariant-loop-line : goal.invariant-loop-line
invariant-loop-line l = Walked (lines l.log) l.t l.line l.done
