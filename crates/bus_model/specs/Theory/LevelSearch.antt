-- How code finds the bound of a level, and which level is the deepest that is looked at.
use Rattle.std.specs.Prelude.{ℕ, suc, cond, ltb}
use Rattle.bus_model.specs.Levels.{fixes}
use Rattle.bus_model.specs.declared.Frame.{Frame}

-- ---- the order by numbers

-- the group that level m fixes beside those of the level before, where that is not the first: of the others than k's own the m-th
abbrev pub group_at : Frame → ℕ → ℕ
group_at k m = cond (ltb m k.group) m (suc m)
