-- `simulate_command::write_log` meets its contract: the arguments decide whether anything is simulated.
use mathlib.Core.Path.{refl}
use borrow.Author.Tests.{le-leb, lt-leb}
use Rattle.simulate_command.specs.Command.{reply_for, text_for}
use Rattle.simulate_command.proofs.write_log.Goals as goal

pub returns-in_err-seed-clause-value : goal.returns-in_err-seed-clause-value
unfolding reply_for
returns-in_err-seed-clause-value c = rw (c.from_residual.ensures, ← c.in_err-seed.ensures)

pub returns-in_err-lines-clause-value : goal.returns-in_err-lines-clause-value
unfolding reply_for
returns-in_err-lines-clause-value c = rw (c.from_residual-in_err-lines.ensures, ← c.in_ok-seed.ensures, ← c.in_err-lines.ensures)

pub returns-then-seed-gt-GREATEST_SEED-clause-value : goal.returns-then-seed-gt-GREATEST_SEED-clause-value
unfolding reply_for
returns-then-seed-gt-GREATEST_SEED-clause-value c =
    rw (← c.in_ok-seed.ensures, ← c.in_ok-lines.ensures, lt-leb _ _ c.if-seed-gt-GREATEST_SEED.true)

pub returns : goal.returns
unfolding reply_for text_for
returns c =
    let both = c.write_simulated.ensures in
    record {
      value = rw (← c.in_ok-seed.ensures, ← c.in_ok-lines.ensures, le-leb _ _ c.if-seed-gt-GREATEST_SEED.false) (rw both.value);
      out_after = rw (← c.in_ok-seed.ensures, ← c.in_ok-lines.ensures) both.out_after;
    }
