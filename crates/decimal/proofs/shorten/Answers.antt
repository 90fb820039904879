-- `decimal::shorten` meets its contract: a number of one digit leaves the blank prefix.
use borrow.Author.Tests.{lt-ltb, le-ltb}
use Rattle.decimal.proofs.shorten.Goals as goal

pub returns-then-n-lt10 : goal.returns-then-n-lt10
returns-then-n-lt10 c = simp (c.in-Number.is, lt-ltb _ _ c.if-n-lt10.true)

pub returns-else-n-lt10 : goal.returns-else-n-lt10
returns-else-n-lt10 c = simp (c.in-Number.is, le-ltb _ _ c.if-n-lt10.false)

pub returns-then-n-lt10-2 : goal.returns-then-n-lt10-2
returns-then-n-lt10-2 c = simp (c.in-Negative.is, lt-ltb _ _ c.if-n-lt10-2.true)

pub returns-else-n-lt10-2 : goal.returns-else-n-lt10-2
returns-else-n-lt10-2 c = simp (c.in-Negative.is, le-ltb _ _ c.if-n-lt10-2.false)
