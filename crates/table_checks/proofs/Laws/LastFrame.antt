-- The frame that ranks last in an accepted table whose offsets are below their periods (document 02, request 14): some schedule reaches its
-- precise bound to the tick, so that is the least claim which every schedule meets.
use Rattle.std.specs.Prelude.{ℕ, ◌/◌, ◌≤◌, ◌<◌, List, ◌≢◌, ◌↔◌, length}
use Rattle.std.proofs.Common.{arith}
use Rattle.bus_model.specs.declared.Frame.{Frame}
use Rattle.bus_model.specs.declared.Faults.TheVariants.{Never}
use Rattle.bus_model.specs.Frame.{row}
use Rattle.bus_model.specs.Bus.{MeetsClaim}
use Rattle.bus_model.specs.Bounds.{precise_bound}
use Rattle.bus_model.specs.Judgement.{verdict, judge}
use Rattle.bus_model.specs.Worst.{RanksLast, last_row, for_group, worst_starts, worst_instance, Responds}
use Rattle.bus_model.proofs.Theory.Reached.{last-reached, last-least}
use Rattle.bus_model.proofs.Theory.LastRow.{last-row}
use Rattle.table_checks.specs.Columns.{columns}
use Rattle.table_checks.specs.Frames.{frames_of}
use Rattle.table_checks.specs.Checks.{Loadable, Accepted}
use Rattle.table_checks.proofs.Laws.Accepted.{length-frames, accepted-size, accepted-valid}
use Rattle.table_checks.proofs.Laws.Offsets.{EarlyRows, early-frames}

module _ (rows : List ℕ) (accepted : Accepted rows) (ls : List (List ℕ)) where
  -- the table's frames, the row of the last one, and that frame
  abbrev fs : List Frame
  fs = frames_of ls rows

  abbrev k : ℕ
  k = last_row fs

  abbrev f : Frame
  f = row fs k

  -- It is one of the table's rows, and ranks last.
  pub last-listed : (k < length fs) × RanksLast fs k
  last-listed =
      let size = accepted-size rows accepted in
      let some : 1 ≤ length rows / columns = omega (arith, size.some, size.whole) in
      last-row fs (rw (length-frames ls rows) some)

  module _ (loadable : Loadable ls) (early : EarlyRows rows) (claim : ℕ) (windowed : verdict (judge Never fs f claim).outcome ≢ 11) where
    pub accepted-reached : Responds fs (for_group (worst_starts fs f)) k (worst_instance fs f) (precise_bound Never fs f)
    accepted-reached = last-reached (accepted-valid rows accepted ls loadable) last-listed.0 (early-frames ls rows early) last-listed.1 claim windowed

    pub accepted-least : (c : ℕ) → MeetsClaim Never fs k c ↔ (precise_bound Never fs f ≤ c)
    accepted-least = last-least (accepted-valid rows accepted ls loadable) last-listed.0 (early-frames ls rows early) last-listed.1 claim windowed
