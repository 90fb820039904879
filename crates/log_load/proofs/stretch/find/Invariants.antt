-- `log_load::stretch::find` meets its contract: after i turns both windows have tried the places of the first i lines.
use Rattle.log_load.specs.Log.{lines}
use Rattle.log_load.specs.Steps.{Tried, start_of, from_end}
use Rattle.log_load.proofs.stretch.find.Given as goal

abbrev pub invariant-loop-i : goal.invariant-loop-i
invariant-loop-i l = Tried (lines l.log) l.w (start_of (lines l.log)) l.i l.starts × Tried (lines l.log) l.w (from_end (lines l.log) l.w) l.i l.ends
