-- The hyperperiod of some frames is the least common multiple of their periods: each period divides it, and no smaller number
-- above 0 has all of them as divisors.
use Rattle.std.specs.Prelude.{ℕ, ◌≤◌, ◌<◌}
use Rattle.std.specs.Int.{◌∣◌}
use mathlib.Core.List.{List, Memᴰ as Mem}
use Rattle.std.proofs.Math.Nat.{le_of_dvd}
use Rattle.arith.specs.Laws.Multiples.{divides-lcm_of, lcm_of-least}
use Rattle.bus_model.specs.Pattern.{hyperperiod}
use Rattle.bus_model.specs.declared.Frame.{Frame}

module _ (gs : List Frame) where
  -- Each period divides it.
  pub hyperperiod-multiple : {g : Frame} → Mem g gs → g.period ∣ hyperperiod gs
  unfolding hyperperiod
  hyperperiod-multiple m = divides-lcm_of (λ g. g.period) gs m

  -- It is at most every number above 0 that all periods divide.
  pub hyperperiod-least : ((g : Frame) → Mem g gs → 1 ≤ g.period) → (n : ℕ) → 0 < n → ((g : Frame) → Mem g gs → g.period ∣ n) → hyperperiod gs ≤ n
  unfolding hyperperiod
  hyperperiod-least some n above all = le_of_dvd above (lcm_of-least (λ g. g.period) gs n some all)
