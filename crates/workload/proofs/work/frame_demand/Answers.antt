-- The demand from the frame's distance.
use Rattle.std.proofs.Common.{ℕ, ◌*◌, ap, ◌∙◌, arith}
use Rattle.arith.specs.Releases.{releases_before}
use Rattle.bus_model.specs.Bounds.{demand}
use Rattle.workload.proofs.work.frame_demand.Goals as goal

pub returns : goal.returns
unfolding demand
returns c =
    let a = c.args in
    record { value = c.demand_from.ensures.value ∙ ap (λ (d : ℕ). a.g.length * releases_before d a.g.period a.n) c.distance_from-d.ensures.value; small = omega (arith, c.demand_from.ensures.small, c.requires.fine.length_high) }
