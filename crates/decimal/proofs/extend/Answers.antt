-- `decimal::extend` meets its contract: what may follow goes by the prefix.
use borrow.Author.Tests.{eq-eqb, ne_eqb}
use Rattle.decimal.proofs.extend.Goals as goal

pub returns-then-byte-eq32 : goal.returns-then-byte-eq32
returns-then-byte-eq32 c = simp (c.in-Blank.is, eq-eqb _ _ c.if-byte-eq32.true)

pub returns-else-byte-eq32 : goal.returns-else-byte-eq32
returns-else-byte-eq32 c = simp (c.in-Blank.is, ne_eqb _ _ c.if-byte-eq32.false) c.with_digit.ensures

pub returns-else-n-eq0 : goal.returns-else-n-eq0
returns-else-n-eq0 c = simp (c.in-Number.is, ne_eqb _ _ c.if-n-eq0.false) c.with_digit-else-n-eq0.ensures
