-- The response may be too small for the length; the start is cut at the limit.
use Rattle.std.specs.Prelude.{Some, ◌+◌, ◌<◌}
use Rattle.std.proofs.Common.{arith, ap}
use borrow.Author.Tests.{lt-ltb, le-ltb}
use Rattle.response_time.specs.Load.{latest_start}
use Rattle.response_time.proofs.within.latest_start.Goals as goal

pub returns-in_err-start : goal.returns-in_err-start
unfolding latest_start
returns-in_err-start c =
    let less : c.args.best + c.args.released < c.args.length = omega (arith, c.in_err-start.ensures) in
    rw (c.from_residual.ensures, lt-ltb _ _ less)

pub returns : goal.returns
unfolding latest_start
returns c = rw (le-ltb _ _ c.in_ok-start.ensures.0) (ap Some (omega (arith, c.in_ok-start.ensures.1)))
