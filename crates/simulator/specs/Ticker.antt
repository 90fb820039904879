-- "An engine that moves tick by tick" (document 02, request 12), by the words of the bus rule: at each tick a transmission goes on, or one
-- starts, or nothing is queued. It has a clock and counts the instances that have started; when an instance is queued, bus_model's
-- `release` says. Its draws and its drawn starts are those of the other engine; it takes nothing else from it.
use Rattle.std.specs.Prelude.{ℕ, zero, suc, ◌-◌, Bool, true, false, cond, ◌&&◌, List, [], ◌∷◌, map, leb, eqb, length}
use Rattle.arith.specs.Lists.{exists, range}
use Rattle.bus_model.specs.Frame.{row}
use Rattle.bus_model.specs.Release.{release}
use Rattle.bus_model.specs.Bus.{one_more}
use Rattle.bus_model.specs.declared.Frame.{Frame}
use Rattle.table_checks.specs.Frames.{frames_of}
use Rattle.bus_log.specs.declared.Entry.{Entry}
use Rattle.bus_log.specs.declared.Line.{Line}
use Rattle.bus_log.specs.Follow.{start_of}
use Rattle.generator.specs.Draw.{draw_from}
use Rattle.simulator.specs.Engine.{lowest_of, unranked, length_from}
use Rattle.simulator.specs.Starts.{starts_drawn}
use Rattle.simulator.specs.Text.{line_of}

pub record Ticker : Type 0 where
  pub drawn : ℕ  -- the number drawn last
  pub tick : ℕ  -- the clock
  pub left : ℕ  -- the ticks that the transmission on the bus still takes, from now on
  pub sent : ℕ → ℕ  -- how many instances of each row have started

-- a tick later, where no transmission starts
unfoldable pub later : Ticker → Ticker
later q = record { drawn = q.drawn; tick = suc q.tick; left = q.left - 1; sent = q.sent }

module _ (fs : List Frame) (starts : ℕ → ℕ) where
  -- whether row i is queued now
  unfoldable pub is_queued : Ticker → ℕ → Bool
  is_queued q i = leb (release starts (row fs i) (q.sent i)) q.tick

  -- whether a transmission starts now: the bus is free and something is queued
  unfoldable pub is_start : Ticker → Bool
  is_start q = eqb q.left 0 && exists (is_queued q) (range 0 (length fs))

  -- its row, the best-ranked that is queued
  unfoldable pub begun_row : Ticker → ℕ
  begun_row q = lowest_of (λ i. cond (is_queued q i) (row fs i).priority unranked) (length fs)

  -- it, with a drawn length
  unfoldable pub begun : Ticker → Entry
  begun q =
      let k = begun_row q in
      record { frame = k; start = q.tick; release = release starts (row fs k) (q.sent k); length = length_from (draw_from q.drawn) (row fs k).length }

  -- a tick later, where it starts
  unfoldable pub started : Ticker → Ticker
  started q =
      let e = begun q in
      record { drawn = draw_from q.drawn; tick = suc q.tick; left = e.length - 1; sent = one_more q.sent e.frame }

  -- the first n transmissions that start in m ticks
  unfoldable pub ticks : ℕ → ℕ → Ticker → List Entry
  ticks zero n q = []
  ticks (suc m) zero q = []
  ticks (suc m) (suc n) q = elim (is_start q) [ true ↦ begun q ∷ ticks m n (started q) | false ↦ ticks m (suc n) (later q) ]

-- the log of n lines, from a seed: what it writes in m ticks
unfoldable pub tick_log : List (List ℕ) → List ℕ → ℕ → ℕ → ℕ → List Line
tick_log ls rows seed m n =
    let fs = frames_of ls rows in
    let d = starts_drawn fs seed 16 in
    map (line_of rows) (ticks fs (start_of d.starts) m n (record { drawn = d.drawn; tick = 0; left = 0; sent = λ i. 0 }))
