-- What a sheet that was written says of the log (document 02, request 11).
use Rattle.std.specs.Prelude.{ℕ, ◌+◌, ◌*◌, ◌/◌, ◌≤◌, ◌<◌, ◌^◌, ◌≡◌, length}
use mathlib.Core.List.{List, Memᴰ as Mem}
use Rattle.arith.specs.Lists.{sum}
use Rattle.table_checks.specs.Columns.{field, columns, identifier_column}
use Rattle.table_checks.specs.Frames.{frames_of}
use Rattle.bus_log.specs.declared.Line.{Line}
use Rattle.bus_log.specs.Log.{last_end, AcceptedLog}
use Rattle.log_check.specs.Check.{lines_of}
use Rattle.log_check.specs.Verdict.{Holds}
use Rattle.log_load.specs.declared.Seen.{Seen}
use Rattle.log_load.specs.Busy.{busy_in, Busiest, most_busy, first_busiest}
use Rattle.log_load.specs.Sheet.{response, seen_of}

-- each number of a row's line fits its column, 5, 11 and 15 wide
pub record SeenFits (s : Seen) : Type 0 where
  pub count : s.count < 10 ^ 5
  pub most : s.most < 10 ^ 11
  pub total : s.total < 10 ^ 15

-- The sheet has n characters: 23, and 42 a row. The text holds an accepted log; the first line has its busiest stretch, the earliest, and how many of its ticks are busy; the busy ticks
-- of the whole log are those of its lines; each response is what the end exceeds the queueing by; and every number fits its column.
pub record Says (ls : List (List ℕ)) (rows text : List ℕ) (w n : ℕ) : Type 0 where
  pub size : n ≡ 23 + 42 * (length rows / columns)
  pub most : n ≤ 2711
  pub holds : Holds text (lines_of text)
  pub accepted : AcceptedLog (frames_of ls rows) rows (lines_of text)
  pub some : 1 ≤ w
  pub busiest : Busiest (lines_of text) w (first_busiest (lines_of text) w)
  pub counted : most_busy (lines_of text) w ≡ busy_in (lines_of text) w (first_busiest (lines_of text) w)
  pub whole : busy_in (lines_of text) (last_end (lines_of text)) 0 ≡ sum (λ l. l.length) (lines_of text)
  pub responses : (l : Line) → Mem l (lines_of text) → l.release + response l ≡ l.start + l.length
  pub first-line : (most_busy (lines_of text) w < 10 ^ 11) × (first_busiest (lines_of text) w < 10 ^ 11)
  pub identifiers : (i : ℕ) → i < length rows / columns → field rows i identifier_column < 10 ^ 10
  pub seen : (i : ℕ) → SeenFits (seen_of rows i (lines_of text))
