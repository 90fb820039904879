-- The command simulate: its arguments, and what it prints (document 02, request 12).
use Rattle.std.specs.Prelude.{ℕ, cond, List, [], eqb, leb, Option, Some, None, Result, Ok}
use Rattle.table_checks.specs.declared.Refusal.{Refusal}
use Rattle.frame_table.specs.Table.{answer_for}
use Rattle.lengths_file.specs.Input.{lengths_part, table_part}
use Rattle.simulator.specs.Simulate.{simulated_returns}
use Rattle.certifier.specs.Listing.{refusal_line}
use Rattle.certifier.specs.SimulateEntry.{log_of_files, simulate_answer}

-- what is printed by way of the area `old`: the log, or number and place of its refusal
unfoldable pub printed : ℕ → ℕ → List ℕ → List ℕ → List ℕ
printed seed n input old =
    let r = simulated_returns (simulate_answer (lengths_part input) (table_part input) seed n old) in
    cond (eqb r.number 0) (log_of_files (lengths_part input) (table_part input) seed n) (refusal_line r.number r.place)

-- SEED is a number of 32 bits and LINES is a number, each in the notation of a table's column
unfoldable pub reply_for : Option ℕ → Option ℕ → List ℕ → List ℕ → Option (Result ℕ Refusal)
reply_for (Some seed) (Some n) input old = cond (leb seed 4_294_967_295) (Some (answer_for (Ok tt) (printed seed n input old) old)) None
reply_for (Some seed) None input old = None
reply_for None lines input old = None

-- what is printed then
unfoldable pub text_for : Option ℕ → Option ℕ → List ℕ → List ℕ → List ℕ
text_for (Some seed) (Some n) input old = printed seed n input old
text_for (Some seed) None input old = []
text_for None lines input old = []
