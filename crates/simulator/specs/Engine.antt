-- The engine: "one transmission a step" (document 02, request 12). Its state is the number drawn last, the tick from which the bus is
-- free, and of each row the release of its next instance.
use Rattle.std.specs.Prelude.{ℕ, zero, suc, ◌+◌, ◌%◌, max, cond, List, [], ◌∷◌, leb, ltb, length, set}
use Rattle.bus_model.specs.Frame.{row}
use Rattle.bus_model.specs.declared.Frame.{Frame}
use Rattle.bus_log.specs.declared.Entry.{Entry}
use Rattle.bus_log.specs.Follow.{due_of}
use Rattle.generator.specs.Draw.{draw_from}
use Rattle.simulator.specs.declared.Engine.{Engine}

-- of the numbers below n, the first with the lowest key
unfoldable pub lowest_of : (ℕ → ℕ) → ℕ → ℕ
lowest_of key zero = 0
lowest_of key (suc n) = let k = lowest_of key n in cond (ltb (key n) (key k)) n k

-- when the next transmission starts, of n rows: as soon as the bus is free and something waits
unfoldable pub start_next : ℕ → Engine → ℕ
start_next n s = max s.free (due_of s.due (lowest_of (due_of s.due) n))

-- above all priorities
abbrev pub unranked : ℕ
unranked = 4_294_967_296

-- the rank of row i at tick t, where only rows that wait have one
unfoldable pub rank_at : List Frame → List ℕ → ℕ → ℕ → ℕ
rank_at fs due t i = cond (leb (due_of due i) t) (row fs i).priority unranked

-- the row that is sent: of those that wait, the best-ranked
unfoldable pub row_next : List Frame → Engine → ℕ
row_next fs s = lowest_of (rank_at fs s.due (start_next (length fs) s)) (length fs)

-- "its length as 1 + v mod the largest length"
unfoldable pub length_from : ℕ → ℕ → ℕ
length_from v largest = 1 + v % largest

-- the next transmission, where v is drawn for its length
unfoldable pub entry_next : List Frame → Engine → ℕ → Entry
entry_next fs s v =
    let k = row_next fs s in
    record { frame = k; start = start_next (length fs) s; release = due_of s.due k; length = length_from v (row fs k).length }

-- what is known after it
unfoldable pub moved_by : List Frame → Engine → ℕ → Entry → Engine
moved_by fs s v e =
    record { drawn = v; free = e.start + e.length; due = set s.due e.frame (e.release + (row fs e.frame).period) }

-- a step
unfoldable pub stepped : List Frame → Engine → Engine
stepped fs s = let v = draw_from s.drawn in moved_by fs s v (entry_next fs s v)

-- n steps
unfoldable pub after : List Frame → Engine → ℕ → Engine
after fs s zero = s
after fs s (suc n) = stepped fs (after fs s n)

-- the transmission of step i, from 0
unfoldable pub entry_at : List Frame → Engine → ℕ → Entry
entry_at fs s i = let p = after fs s i in entry_next fs p (draw_from p.drawn)

-- those of n steps from step i on
unfoldable pub entries_from : List Frame → Engine → ℕ → ℕ → List Entry
entries_from fs s zero i = []
entries_from fs s (suc n) i = entry_at fs s i ∷ entries_from fs s n (i + 1)
