-- How great the numbers of a simulation get.
use Prim.Native.Nat.{ℕ, ◌≤◌, ◌<◌}
use Rattle.std.specs.Prelude.{◌≡◌}
use Rattle.std.proofs.Math.ListN.{length}
use Rattle.bus_log.specs.Follow.{due_of}
use Rattle.simulator.specs.declared.Engine.{Engine}

-- no number of the engine is above m
pub record Within (s : Engine) (m : ℕ) : Type 0 where
  pub size : length s.due ≡ 64
  pub free : s.free ≤ m
  pub due : (i : ℕ) → i < 64 → due_of s.due i ≤ m
