-- What one step of the code hands to the next.
use Rattle.std.proofs.Props as std
use Rattle.std.specs.Coded.{×_prop, Unit-prop, le_prop}
use Rattle.std.specs.Prelude.{ℕ, ◌+◌, ◌-◌, ◌≤◌, ◌<◌, min, max, ◌≡◌, cond, List, [], ◌∷◌, length, get_or, ltb}
use Rattle.arith.specs.Lists.{sum}
use Rattle.arith.specs.Laws.Walks.{Through}
use Rattle.bus_log.specs.declared.Line.{Line}
use Rattle.bus_log.specs.Log.{is_named, last_end}
use Rattle.log_check.specs.Check.{lines_of}
use Rattle.log_check.specs.Verdict.{Holds}
use Rattle.log_load.specs.declared.Best.{Best}
use Rattle.log_load.specs.declared.Window.{Window}
use Rattle.log_load.specs.declared.Seen.{Seen}
use Rattle.log_load.specs.Busy.{busy_in}
use Rattle.log_load.specs.Sheet.{response}

-- ---- lines

-- a text that is in the notation: it holds its lines
abbrev pub Readable : List ℕ → Type 0
Readable text = Holds text (lines_of text)

-- each line starts at the end of the one before or later, the first at e or later
unfoldable pub Ordered : ℕ → List Line → Type 0
Ordered e [] = Unit {0}
Ordered e (l ∷ ls) = (e ≤ l.start) × Ordered (l.start + l.length) ls

-- which is a fact
pub Ordered-prop : (e : ℕ) (log : List Line) → IsProp (Ordered e log)
unfolding Ordered
Ordered-prop e [] = Unit-prop
Ordered-prop e (l ∷ ls) = ×_prop le_prop (Ordered-prop (l.start + l.length) ls)

-- both facts in a ghost field
pub ruleset props = (std.props, Ordered-prop)

-- line i, from 0
abbrev pub no_line : Line
no_line = record { start = 0; identifier = 0; kind = 0; release = 0; length = 0 }

abbrev pub nth : List Line → ℕ → Line
nth log i = get_or log i no_line

-- how many of the w ticks from s on the line holds
unfoldable pub overlap : ℕ → ℕ → Line → ℕ
overlap w s l = min (s + w) (l.start + l.length) - max s l.start

-- ---- stretches

-- the one with more busy ticks, or of two with as many the earlier
unfoldable pub better : Best → Best → Best
better a b = cond (ltb a.count b.count) b (cond (ltb b.count a.count) a (cond (ltb b.first a.first) b a))

module _ (log : List Line) where
  -- A walk to tick t or before it stands before line k, and the lines before that one hold `done` ticks: so many, and those of the lines
  -- from there on, are busy before any tick from t on.
  pub record Walked (t k done : ℕ) : Type 0 where
    pub until : (u : ℕ) → t ≤ u → Through (sum (overlap u 0)) ◌+◌ log (busy_in log u 0) done k

  module _ (w : ℕ) where
    -- a stretch between 0 and the last end, with its busy ticks
    pub record Sound (b : Best) : Type 0 where
      pub within : b.first + w ≤ last_end log
      pub counts : b.count ≡ busy_in log w b.first

    -- the stretch from u on has no more, and less where it is earlier
    pub record Covers (b : Best) (u : ℕ) : Type 0 where
      pub most : u + w ≤ last_end log → busy_in log w u ≤ b.count
      pub first : u + w ≤ last_end log → u < b.first → busy_in log w u < b.count

    -- what a covers, b does
    pub record Carries (a b : Best) : Type 0 where
      pub carries : (u : ℕ) → Covers a u → Covers b u

    -- a window that can move on to s
    pub record Before (s : ℕ) (win : Window) : Type 0 where
      pub from : Walked s win.from.line win.from.done
      pub to : Walked (s + w) win.to.line win.to.done
      pub sound : Sound win.best

    -- a window that has tried 0 and the first i of some places, and can move on to the others
    pub record Tried (place : ℕ → ℕ) (i : ℕ) (win : Window) : Type 0 where
      pub sound : Sound win.best
      pub origin : Covers win.best 0
      pub covers : (j : ℕ) → j < i → Covers win.best (place j)
      pub before : (j : ℕ) → i ≤ j → j < length log → Before (place j) win

-- the places that are tried: where a line starts, and so that the stretch ends with one
abbrev pub start_of : List Line → ℕ → ℕ
start_of log i = (nth log i).start

abbrev pub from_end : List Line → ℕ → ℕ → ℕ
from_end log w i = (nth log i).start + (nth log i).length - w

-- ---- rows

-- what is seen of row i, with one line more
unfoldable pub with_line : List ℕ → ℕ → Line → Seen → Seen
with_line rows i l s = cond (is_named rows l i) (record { count = s.count + 1; most = max s.most (response l); total = s.total + response l }) s
