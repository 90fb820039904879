-- Every number fits its column: there are at most 1600 lines, and a line starts by 9999999999 and holds at most 9999 ticks.
use Rattle.std.specs.Prelude.{ℕ, ◌/◌, ◌≤◌, ◌<◌, ◌^◌, length}
use mathlib.Core.List.{List, Memᴰ as Mem}
use Rattle.std.proofs.Common.{arith}
use Rattle.arith.specs.Laws.Members.{of-keep, length-keep}
use Rattle.arith.specs.Laws.Sums.{sum_bound, greatest-le}
use Rattle.table_checks.specs.Columns.{field, columns, identifier_column}
use Rattle.table_checks.specs.Checks.{Accepted}
use Rattle.table_checks.proofs.Laws.Accepted.{accepted-limits}
use Rattle.table_checks.proofs.Laws.Limits.{identified-max}
use Rattle.bus_log.specs.declared.Line.{Line}
use Rattle.bus_log.specs.Log.{is_named, last_end}
use Rattle.log_check.specs.Check.{lines_of}
use Rattle.log_check.specs.Laws.Small.{latest, early, end-early}
use Rattle.log_load.specs.Busy.{most_busy, first_busiest}
use Rattle.log_load.specs.Sheet.{response, of_row, seen_of}
use Rattle.log_load.specs.Meaning.{SeenFits}
use Rattle.log_load.specs.Steps.{Readable}
use Rattle.log_load.specs.Theory.Stretch.{busy-most}
use Rattle.log_load.specs.Theory.Found.{first-busiest}
use Rattle.log_load.specs.Theory.Lines.{few-lines}

module _ (text : List ℕ) (readable : Readable text) where
  -- A response is no greater than the end.
  log-low : (l : Line) → Mem l (lines_of text) → response l ≤ latest
  log-low l m = omega (arith, (early (lines_of text) text readable l m).end)

  last-low : last_end (lines_of text) ≤ latest
  last-low = end-early 0 (lines_of text) (omega arith) (early (lines_of text) text readable)

  -- "That number and the stretch's first tick stand on a first line, each 11 wide."
  pub first_fits : (w : ℕ) → w ≤ last_end (lines_of text) → (most_busy (lines_of text) w < 10 ^ 11) × (first_busiest (lines_of text) w < 10 ^ 11)
  first_fits w room =
      let (b, e) = first-busiest (lines_of text) w room in
      (omega (arith, e, busy-most (lines_of text) w (first_busiest (lines_of text) w), last-low, room), omega (arith, b.within, last-low))

  module _ (rows : List ℕ) (i : ℕ) where
    few : length (of_row rows i (lines_of text)) ≤ 1600
    unfolding of_row
    few = omega (arith, length-keep (λ l. is_named rows l i) (lines_of text), few-lines text readable)

    low : (l : Line) → Mem l (of_row rows i (lines_of text)) → response l ≤ latest
    unfolding of_row
    low l m = log-low l (of-keep (λ l. is_named rows l i) (lines_of text) m).0

    -- "instances seen, greatest response seen, sum of responses, .. 5, 11 and 15 wide"
    pub seen-fits : SeenFits (seen_of rows i (lines_of text))
    unfolding seen_of
    seen-fits = record {
      count = omega (arith, few);
      most = omega (arith, greatest-le (of_row rows i (lines_of text)) low);
      total = omega (arith, sum_bound response latest (of_row rows i (lines_of text)) low, few);
    }

-- "identifier, .. 10 .. wide"
pub identifier-fits : (rows : List ℕ) → Accepted rows → (i : ℕ) → i < length rows / columns → field rows i identifier_column < 10 ^ 10
identifier-fits rows ok i l = omega (arith, (identified-max _ _ (accepted-limits rows ok i l).identified).1)
