use mathlib.Core.Path.{◌≡◌, sym, ◌∙◌}
use native.Mathlib.Nat.{sub-zero}
use native.Mathlib.Omega.{arith}
use Rattle.std.proofs.lemmas.Result.{err_from_is_err_and}
use Rattle.table_checks.specs.Table.{frames}
use Rattle.bus_log.specs.Follow.{entry_of, follow_line}
use Rattle.log_check.specs.Laws.Loop.{whole-line, entry_at, log-start, log-end, log-goes, log-stops}
use Rattle.log_check.specs.Laws.Meaning.{line-stands}
use Rattle.log_check.proofs.follow.follow_log.Goals as goal
use Rattle.log_check.proofs.follow.follow_log.Goals.{After-follow_line}

pub loop-i-init : goal.loop-i-init
loop-i-init c = rw (c.begin-p.ensures, sub-zero) (log-start _ _ _)

pub line_of-requires : goal.line_of-requires
line_of-requires c =
    (omega (arith, c.requires.0), line-stands _ _ (whole-line c.args.text.now c.requires.1 c.loop-i.i c.loop-i-test.true))

pub follow_line-requires : goal.follow_line-requires
unfolding entry_of
follow_line-requires c =
    let small = c.line_of.ensures.small in
    record { accepted = c.args.table.now.accepted.1; n_bound = (omega (arith, c.requires.0, c.loop-i-test.true), rw c.entry_of-e.ensures small.release, rw c.entry_of-e.ensures small.start, rw c.entry_of-e.ensures small.length) }

-- the line as it was followed
followed : (c : After-follow_line) → c.follow_line.result ≡ follow_line (frames c.args.table.now) c.loop-i.p c.loop-i.i (entry_at c.args.table.now.lengths c.args.table.now.rows.now c.args.text.now c.loop-i.i)
followed c = rw (← c.line_of.ensures.value, ← c.entry_of-e.ensures) c.follow_line.ensures

pub returns-in_err-p : goal.returns-in_err-p
returns-in_err-p c =
    let p = err_from_is_err_and c.from_residual.result c.from_residual.ensures.1 in
    rw (p.1, p.2) (log-stops _ _ _ _ _ _ c.loop-i.invariant c.loop-i-test.true _ (sym c.in_err-p.was ∙ followed (goal.at.returns-in_err-p c).After-follow_line))

pub loop-i-preserved : goal.loop-i-preserved
loop-i-preserved c =
    log-goes _ _ _ _ _ _ c.loop-i.invariant c.loop-i-test.true _ (sym c.in_ok-p.was ∙ followed (goal.at.loop-i-preserved c).After-follow_line)

pub returns : goal.returns
returns c = log-end _ _ _ _ _ _ c.loop-i.invariant c.loop-i-test.false
