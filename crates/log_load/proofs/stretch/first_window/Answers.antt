-- `log_load::stretch::first_window` meets its contract.
use mathlib.Core.Path.{refl}
use native.Mathlib.Omega.{arith}
use Rattle.log_load.specs.Theory.Walk.{walk_start}
use Rattle.log_load.specs.Theory.Best.{tried-start}
use Rattle.log_load.proofs.stretch.first_window.Goals as goal

pub walk_to-to-requires : goal.walk_to-to-requires
walk_to-to-requires c =
    record { t_bound = omega (arith, c.requires.1); walked = walk_start _ c.args.log.now.ordered _ }

pub returns : goal.returns
returns c =
    let t = c.walk_to-to.ensures in
    λ place. tried-start _ _ c.args.log.now.ordered place _ _ c.requires.0 refl refl t.walked t.busy_value
