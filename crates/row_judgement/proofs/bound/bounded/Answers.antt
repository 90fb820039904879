-- By the bound.
use Rattle.row_judgement.specs.Decide.{bounded_by}
use Rattle.row_judgement.proofs.bound.bounded.Goals as goal

pub returns-in-NoWindow : goal.returns-in-NoWindow
unfolding bounded_by
returns-in-NoWindow c = rw c.in-NoWindow.is

pub returns-in-Approximate : goal.returns-in-Approximate
unfolding bounded_by
returns-in-Approximate c = rw c.in-Approximate.is

pub returns-in-Level : goal.returns-in-Level
unfolding bounded_by
returns-in-Level c = rw c.in-Level.is

pub returns-in-TooMany : goal.returns-in-TooMany
unfolding bounded_by
returns-in-TooMany c = rw c.in-TooMany.is

pub returns-in-Precise : goal.returns-in-Precise
unfolding bounded_by
returns-in-Precise c = rw c.in-Precise.is
