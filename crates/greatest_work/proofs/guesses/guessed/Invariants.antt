-- The invariant has the choices of the groups done.
use Rattle.greatest_work.specs.Setting.{frames}
use Rattle.greatest_work.proofs.Laws.Guesses.{AllowedTo}
use Rattle.greatest_work.proofs.guesses.guessed.Given as goal

abbrev pub invariant-loop-j : goal.invariant-loop-j
invariant-loop-j l = AllowedTo (frames l.setting) l.setting.target.frame l.fn.choices l.fixed l.j
