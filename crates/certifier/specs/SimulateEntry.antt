-- What the entry for a simulation answers (document 02, request 12).
use Rattle.std.specs.Prelude.{ℕ, ◌<◌, ◌^◌, List, Result, Ok, Err}
use Rattle.frame_table.specs.Text.{fields_of}
use Rattle.lengths_file.specs.Lengths.{lengths_of}
use Rattle.lengths_file.specs.Input.{input_check}
use Rattle.simulator.specs.declared.Refusal.{Refusal}
use Rattle.simulator.specs.Simulate.{text_of, simulated_for}

-- the log of the table in a file, by the lengths in another
abbrev pub log_of_files : List ℕ → List ℕ → ℕ → ℕ → List ℕ
log_of_files lengths file seed n = text_of (lengths_of lengths) (fields_of file) seed n

-- the answer where it is to be written into the area `out`
abbrev pub simulate_answer : List ℕ → List ℕ → ℕ → ℕ → List ℕ → Result ℕ Refusal
simulate_answer lengths file seed n out = simulated_for (input_check lengths file) seed n (log_of_files lengths file seed n) out

-- what was written is few enough for a signed number
abbrev pub CountableLog : Result ℕ Refusal → Type 0
CountableLog (Ok n) = n < 2 ^ 63
CountableLog (Err r) = Unit {0}
