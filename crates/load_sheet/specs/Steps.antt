-- What one step of the code hands to the next.
use Rattle.std.specs.Prelude.{ℕ, ◌≤◌, ◌<◌, ◌≡◌, true, List, length, get_or}
use Rattle.load_sheet.specs.Sheet.{has_frames}

-- a list of nodes that have frames
pub record Nodes (rows js : List ℕ) : Type 0 where
  pub few : length js ≤ 16
  pub each : (i : ℕ) → i < length js → has_frames rows (get_or js i 0) ≡ true
