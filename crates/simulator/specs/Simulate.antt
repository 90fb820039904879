-- The operation: what is answered, and what is written (document 02, request 12). ls are the lengths that were loaded.
use Rattle.std.specs.Prelude.{ℕ, cond, List, ◌++◌, length, drop, eqb, Result, Ok, Err}
use Rattle.table_checks.specs.declared.Refusal.{Refusal as TableRefusal}
use Rattle.table_checks.specs.Columns.{between}
use Rattle.table_checks.specs.Frames.{frames_of}
use Rattle.table_checks.specs.Refusal.{number_of, Returned, returned}
use Rattle.frame_table.specs.Table.{answer_for, Answered, answered, returns_for}
use Rattle.bus_log.specs.declared.Line.{Line}
use Rattle.simulator.specs.declared.Refusal.{Refusal}
use Rattle.simulator.specs.declared.Refusal.TheVariants.{Table, ZeroSeed, LineCount}
use Rattle.simulator.specs.Starts.{engine_of}
use Rattle.simulator.specs.Text.{log_text, lines_from}

-- the log of n lines
unfoldable pub log_of : List (List ℕ) → List ℕ → ℕ → ℕ → List Line
log_of ls rows seed n = lines_from (frames_of ls rows) rows (engine_of (frames_of ls rows) seed) n 0

-- its characters
unfoldable pub text_of : List (List ℕ) → List ℕ → ℕ → ℕ → List ℕ
text_of ls rows seed n = log_text (log_of ls rows seed n)

-- an answer about lengths, table and area as one about a simulation
abbrev pub of_table : {A : Type 0} → Result A TableRefusal → Result A Refusal
of_table (Ok a) = Ok a
of_table (Err r) = Err (Table r)

-- 21, then 22, then the answer where `new` is to be written into the area `old`, by which 8 comes last
unfoldable pub wanted_for : ℕ → ℕ → List ℕ → List ℕ → Result ℕ Refusal
wanted_for seed n new old = cond (eqb seed 0) (Err ZeroSeed) (cond (between 1 1600 n) (of_table (answer_for (Ok tt) new old)) (Err LineCount))

-- the same after the checks of lengths and table
unfoldable pub simulated_for : Result (Unit {0}) TableRefusal → ℕ → ℕ → List ℕ → List ℕ → Result ℕ Refusal
simulated_for (Err r) seed n new old = Err (Table r)
simulated_for (Ok _) seed n new old = wanted_for seed n new old

-- the area afterwards: what was written and then what stood there before; after a refusal what stood there before
unfoldable pub area_left : Result ℕ Refusal → List ℕ → List ℕ → List ℕ
area_left (Ok n) new old = new ++ drop (length new) old
area_left (Err r) new old = old

-- ---- in numbers

-- number and place of a refusal
unfoldable pub refusal_returns : Refusal → Returned
refusal_returns (Table r) = returned (number_of r.cause) r.place
refusal_returns ZeroSeed = returned 21 0
refusal_returns LineCount = returned 22 0

-- what an answer returns
unfoldable pub simulated_returns : Result ℕ Refusal → Answered
simulated_returns (Ok n) = answered 0 0 n
simulated_returns (Err r) = answered (refusal_returns r).number (refusal_returns r).place 0

-- what is returned: what the check of lengths and table returns, then 21, 22, and 8
unfoldable pub simulate_returns : Returned → ℕ → ℕ → List ℕ → List ℕ → Answered
simulate_returns check seed n new old =
    cond (eqb check.number 0)
    (cond (eqb seed 0) (answered 21 0 0) (cond (between 1 1600 n) (returns_for (returned 0 0) new old) (answered 22 0 0)))
    (answered check.number check.place 0)
