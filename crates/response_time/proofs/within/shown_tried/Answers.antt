-- Each way of trying tells for itself; the placed frames tell of the load.
use Prim.Native.Nat.{◌≤◌}
use Rattle.std.specs.Prelude.{Option, IfSome}
use Rattle.std.proofs.lemmas.Option.{IfSome_then}
use Rattle.workload.specs.declared.Search.TheVariants.{Instance}
use Rattle.workload.specs.Placed.{placed_in, FinePlaced}
use Rattle.workload.proofs.Laws.Fine.{in-table-fine}
use Rattle.workload.proofs.Laws.Placed.{placed-fine}
use Rattle.greatest_work.specs.Setting.{frames, listed}
use Rattle.response_time.specs.Load.{Shows, ShowsPlaced}
use Rattle.response_time.specs.declared.within.Shown.{Shown}
use Rattle.response_time.specs.Laws.Searches.{base-small}
use Rattle.response_time.specs.Laws.Within.{shows-placed}
use Rattle.response_time.proofs.within.shown_tried.Goals as goal
use Rattle.response_time.proofs.within.shown_tried.Goals.{After-waits_of-base}

pub waits_of-base-requires : goal.waits_of-base-requires
waits_of-base-requires c = let p = c.requires in record { fine_target = c.args.setting.now.posed.target; search_bound = base-small c.args.setting.now.posed.prepared.filled.table (listed c.args.setting.now) c.args.choices (Instance c.args.q) p.asked c.args.setting.now.posed.blocked }

-- what the climbs ask for
climbs : (c : After-waits_of-base) → FinePlaced (placed_in c.args.placed.now) × ((1 ≤ c.args.setting.now.target.frame.length) × (c.waits_of-base.result ≤ 1000000000) × (c.args.latest ≤ 1000000))
climbs c =
    let p = c.requires in
    let t = c.args.setting.now.posed.prepared.filled.table in
    (rw p.placed_value (placed-fine t c.args.setting.now.posed.target (Instance c.args.q) c.args.choices), ((in-table-fine _ t (listed c.args.setting.now)).length-low, c.waits_of-base.ensures.small, p.latest_bound))

-- what they tell of the placed frames they tell of the load
shown : (c : After-waits_of-base) (r : Option Shown) → IfSome r (λ s. ShowsPlaced (placed_in c.args.placed.now) c.args.setting.now.target.frame.length c.waits_of-base.result c.args.latest s.start s.count)
    → IfSome r (λ s. Shows c.args.setting.now.target.faults (frames c.args.setting.now) c.args.setting.now.target.frame c.args.choices c.args.q c.args.latest s.start s.count)
shown c r told =
    let p = c.requires in
    IfSome_then r told (λ s t. shows-placed c.args.setting.now.posed.prepared.filled.table c.args.setting.now.posed.target c.args.setting.now.posed.blocked c.args.setting.now.posed.cost _ _ p.placed_value c.waits_of-base.ensures.value t)

pub climb_above-last-requires : goal.climb_above-last-requires
climb_above-last-requires c = let answer = climbs (c) in record { fine_placed = answer.0; in_bounds = answer.1 }

pub returns-then-is_some-clause-shows : goal.returns-then-is_some-clause-shows
returns-then-is_some-clause-shows c = shown (goal.at.returns-then-is_some-clause-shows c).After-waits_of-base c.climb_above-last.result c.climb_above-last.ensures.shows_placed

pub climb_above-climbed-requires : goal.climb_above-climbed-requires
climb_above-climbed-requires c = let answer = climbs (goal.at.climb_above-climbed-requires c).After-waits_of-base in record { fine_placed = answer.0; in_bounds = answer.1 }

pub returns-then-is_some-2-clause-shows : goal.returns-then-is_some-2-clause-shows
returns-then-is_some-2-clause-shows c = shown (goal.at.returns-then-is_some-2-clause-shows c).After-waits_of-base c.climb_above-climbed.result c.climb_above-climbed.ensures.shows_placed
