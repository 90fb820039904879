-- `log_check::follow::answer` meets its contract: what is known of the starts at the end is what is shown.
use borrow.Author.Tests.{ne_eqb}
use native.Mathlib.Omega.{arith}
use Rattle.log_check.specs.Check.{followed_answer}
use Rattle.log_check.specs.Laws.Meaning.{place-few, starts-known}
use Rattle.log_check.proofs.follow.answer.Goals as goal

pub overflow_cast-place : goal.overflow_cast-place
overflow_cast-place c =
    let few = place-few c.args.table.now.lengths c.args.table.now.rows.now c.args.text.now c.args.table.now.accepted.0 c.args.table.now.accepted.1 c.requires.0 in
    omega (arith, c.in-Err.ensures.1)

pub returns-in-Ok : goal.returns-in-Ok
unfolding followed_answer
returns-in-Ok c =
    let e = c.in-Ok.ensures in
    rw (e, c.shown_starts.ensures, starts-known _ _ _ c.args.table.now.accepted.0 c.args.table.now.accepted.1 _ e)

pub returns-in-Err : goal.returns-in-Err
unfolding followed_answer
returns-in-Err c =
    let some = c.in-Err.ensures.0 in
    rw (c.in-Err.ensures.1, ne_eqb c.in-Err.place 0 (λ z. omega arith)) c.refuse_at.ensures
