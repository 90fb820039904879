-- The bound that decides about a claim (document 01, "Judgement").
use Rattle.std.specs.Prelude.{ℕ, List, Bool, false, cond, leb, eqb, Option, Some, None}
use Rattle.bus_model.specs.declared.Frame.{Frame}
use Rattle.bus_model.specs.declared.Faults.{Faults}
use Rattle.bus_model.specs.Bounds.{approximate_bound, precise_bound}
use Rattle.bus_model.specs.Levels.{level_bound}
use Rattle.bus_model.specs.Judgement.{lacks_window, too_many_scenarios, deepest_level}
use Rattle.bounds.specs.declared.Bound.{Bound}
use Rattle.bounds.specs.declared.Bound.TheVariants.{NoWindow, Approximate, Level, TooMany, Precise}

-- whether the claim, if there is one, meets a bound
abbrev pub meets : Option ℕ → ℕ → Bool
meets (Some c) b = leb b c
meets None b = false

-- the bound of level m, where the claim meets it, and otherwise that there are too many scenarios, with the approximate bound b
abbrev pub level_for : Faults → List Frame → Frame → ℕ → Option ℕ → ℕ → Bound
level_for faults fs k m claim b = cond (meets claim (level_bound faults fs k m)) (Level (level_bound faults fs k m)) (TooMany b)

-- above what the bound of level m need not be searched further: the claim, if there is one; at the last level, whose bound is asked for whatever the
-- claim, what no response exceeds
abbrev pub enough_for : ℕ → Option ℕ → Option ℕ
enough_for m claim = cond (eqb m 15) (Some 4294967295) claim

-- what level m decides: the last one has the precise bound
abbrev pub decided_at : Faults → List Frame → Frame → ℕ → Option ℕ → ℕ → Bound
decided_at faults fs k m claim b = cond (eqb m 15) (Precise (precise_bound faults fs k)) (level_for faults fs k m claim b)

-- no bound without windows; else the approximate one, where the claim meets it; else that of the deepest level, where there are too many
-- scenarios, or the precise one
unfoldable pub bound_for : Faults → List Frame → Frame → Option ℕ → Bound
bound_for faults fs k claim =
    cond (lacks_window faults fs k) NoWindow
    (cond (meets claim (approximate_bound faults fs k)) (Approximate (approximate_bound faults fs k))
    (cond (too_many_scenarios fs k) (level_for faults fs k (deepest_level fs k) claim (approximate_bound faults fs k)) (Precise (precise_bound faults fs k))))
