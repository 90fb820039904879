-- What judging a claim finds, in numbers alone (document 01, "Judgement"): verdict, bound used and margin.
use Rattle.std.specs.Prelude.{ℕ, List, cond, leb, ℤ, pos, ◌-ℤ◌}
use Rattle.bus_model.specs.Bounds.{approximate_bound, precise_bound}
use Rattle.bus_model.specs.Levels.{level_bound}
use Rattle.bus_model.specs.Judgement.{lacks_window, too_many_scenarios, deepest_level, verdict}
use Rattle.bus_model.specs.declared.Frame.{Frame}
use Rattle.bus_model.specs.declared.Faults.{Faults}
use Rattle.bus_model.specs.declared.Judgement.{Judgement}

pub record Finding : Type 0 where
  pub verdict : ℕ
  pub bound : ℕ
  pub margin : ℤ

-- that of a judgement
unfoldable pub finding_of : Judgement → Finding
finding_of j = record { verdict = verdict j.outcome; bound = j.bound; margin = j.margin }

-- "Margin is claim minus bound"
abbrev pub finding : ℕ → ℕ → ℕ → Finding
finding verdict bound claim = record { verdict = verdict; bound = bound; margin = pos claim -ℤ pos bound }

-- "Order": no window (11); 1 by the rough bound; 4 by the deepest level, or undecided (12); 2 or 3 by the exact bound
unfoldable pub finding_for : Faults → List Frame → Frame → ℕ → Finding
finding_for faults fs k claim =
    let rough = approximate_bound faults fs k in
    let exact = precise_bound faults fs k in
    let deepest = level_bound faults fs k (deepest_level fs k) in
    cond (lacks_window faults fs k) (record { verdict = 11; bound = 0; margin = pos 0 })
    (cond (leb rough claim) (finding 1 rough claim)
    (cond (too_many_scenarios fs k) (cond (leb deepest claim) (finding 4 deepest claim) (finding 12 rough claim))
    (cond (leb exact claim) (finding 2 exact claim) (finding 3 exact claim))))
