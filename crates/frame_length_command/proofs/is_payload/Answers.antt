-- `frame_length_command::is_payload` meets its contract: one test after the other.
use borrow.Author.Tests.{eq-eqb, ne_eqb}
use Rattle.frame_length_command.specs.Command.{is_payload}
use Rattle.frame_length_command.proofs.is_payload.Goals as goal

pub returns-then-s-eq1 : goal.returns-then-s-eq1
unfolding is_payload
returns-then-s-eq1 c = rw (eq-eqb _ _ c.if-s-eq1.true)

pub returns-then-s-eq0 : goal.returns-then-s-eq0
unfolding is_payload
returns-then-s-eq0 c = rw (ne_eqb _ _ c.if-s-eq1.false, eq-eqb _ _ c.if-s-eq0.true)

pub returns-then-s-ne0 : goal.returns-then-s-ne0
unfolding is_payload
returns-then-s-ne0 c = rw (ne_eqb _ _ c.if-s-eq1.false, ne_eqb _ _ c.if-s-eq0.false, ne_eqb _ _ c.if-s-ne0.true)

pub returns : goal.returns
unfolding is_payload
returns c =
    rw (ne_eqb _ _ c.if-s-eq1.false, ne_eqb _ _ c.if-s-eq0.false, eq-eqb _ _ c.if-s-ne0.false) c.is_hex.ensures
