-- The drawn starts are below their hyperperiods, and so the first releases are small.
use Prim.Native.Nat.{ℕ, ◌≤◌}
use Rattle.bus_log.specs.Follow.{start_of}
use Rattle.simulator.specs.declared.Starts.{Starts}

-- no start is above a hyperperiod's limit
unfoldable pub Early : Starts → Type 0
Early d = (j : ℕ) → start_of d.starts j ≤ 1000000
