-- `log_load::stretch::move_to` meets its contract.
use native.Mathlib.Omega.{arith}
use Rattle.log_load.specs.Theory.Best.{window-moves}
use Rattle.log_load.proofs.stretch.move_to.Goals as goal

pub returns : goal.returns
returns c =
    let p = c.requires in
    let f = c.walk_to-from.ensures in
    let t = c.walk_to-to.ensures in
    window-moves _ _ _ _ _ _ _ _ p.before (omega (arith, c.if-last-s.false, p.last_value.0)) f.walked f.busy_value t.walked t.busy_value c.saturating_sub.ensures c.better.ensures
