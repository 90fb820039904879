-- By the bound.
use borrow.Author.Tests.{lt-leb, le-leb}
use Rattle.row_judgement.specs.Decide.{judged_by}
use Rattle.row_judgement.proofs.judgement.judged_by.Goals as goal

pub returns-in-NoWindow : goal.returns-in-NoWindow
unfolding judged_by
returns-in-NoWindow c = rw c.in-NoWindow.is

pub returns-in-Approximate : goal.returns-in-Approximate
unfolding judged_by
returns-in-Approximate c = rw c.in-Approximate.is c.judged.ensures

pub returns-in-Level : goal.returns-in-Level
unfolding judged_by
returns-in-Level c = rw c.in-Level.is c.judged-in-Level.ensures

pub returns-in-TooMany : goal.returns-in-TooMany
unfolding judged_by
returns-in-TooMany c = rw c.in-TooMany.is c.judged-in-TooMany.ensures

pub returns-then-b-claim : goal.returns-then-b-claim
unfolding judged_by
returns-then-b-claim c = rw (c.in-Precise.is, le-leb _ _ c.if-b-claim.true) c.judged-then-b-claim.ensures

pub returns-else-b-claim : goal.returns-else-b-claim
unfolding judged_by
returns-else-b-claim c = rw (c.in-Precise.is, lt-leb _ _ c.if-b-claim.false) c.judged-else-b-claim.ensures
