-- The lines of a log, each 40 characters.
use Rattle.std.specs.Prelude.{ℕ, zero, suc, ◌+◌, ◌≤◌, ◌≡◌, refl, List, ◌∷◌, length, take}
use Rattle.std.proofs.Common.{ap, arith, length-append}
use Rattle.arith.specs.Laws.Lines.{Lines}
use Rattle.decimal.specs.Laws.{length-write}
use Rattle.bus_model.specs.declared.Frame.{Frame}
use Rattle.table_checks.specs.Frames.{frames_of}
use Rattle.bus_log.specs.declared.Line.{Line}
use Rattle.simulator.specs.declared.Engine.{Engine}
use Rattle.simulator.specs.Engine.{entry_at, entries_from}
use Rattle.simulator.specs.Starts.{engine_of}
use Rattle.simulator.specs.Text.{line_of, line_text, log_text, lines_from}
use Rattle.simulator.specs.Simulate.{log_of}

pub length-line : (l : Line) → length (line_text l) ≡ 40
unfolding line_text
length-line l = simp (length-append, length-write)

pub log-lines : (fs : List Frame) (t : List ℕ) (s : Engine) → Lines 40 (λ i. line_text (line_of t (entry_at fs s i))) (λ n i. log_text (lines_from fs t s n i))
unfolding lines_from log_text entries_from
log-lines fs t s = record { wide = λ i. length-line _; none = λ i. refl; more = λ n i. refl }

-- The log of fewer lines is the beginning of that of more.
lines-begin : (fs : List Frame) (t : List ℕ) (s : Engine) (m n i : ℕ) → m ≤ n → take m (lines_from fs t s n i) ≡ lines_from fs t s m i
unfolding lines_from entries_from
lines-begin fs t s zero n i h = refl
lines-begin fs t s (suc m) zero i h = absurd (omega arith)
lines-begin fs t s (suc m) (suc n) i h = ap {B = List Line} (λ (x : List Line). line_of t (entry_at fs s i) ∷ x) (lines-begin fs t s m n (i + 1) (omega arith))

pub log-begins : (ls : List (List ℕ)) (rows : List ℕ) (seed m n : ℕ) → m ≤ n → take m (log_of ls rows seed n) ≡ log_of ls rows seed m
unfolding log_of
log-begins ls rows seed m n h = lines-begin (frames_of ls rows) rows (engine_of (frames_of ls rows) seed) m n 0 h
