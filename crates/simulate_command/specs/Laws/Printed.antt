-- What is printed is the log where it was written, and else the line of its refusal.
use Rattle.std.specs.Prelude.{ℕ, cond, List, eqb, Result, Ok, Err}
use Rattle.std.proofs.Math.Path.{◌≡◌, refl, ap}
use Rattle.std.proofs.Common.{sym, ◌∙◌, arith, ne_eqb}
use Rattle.table_checks.specs.declared.Refusal.{Refusal as TableRefusal}
use Rattle.arith.specs.Laws.Tests.{by-test}
use Rattle.table_checks.specs.Columns.{between}
use Rattle.frame_table.specs.Table.{Answered, answer_for, area_after}
use Rattle.lengths_file.specs.Input.{input_check, lengths_part, table_part}
use Rattle.simulator.specs.declared.Refusal.{Refusal}
use Rattle.simulator.specs.declared.Refusal.TheVariants.{ZeroSeed, LineCount}
use Rattle.simulator.specs.Simulate.{of_table, wanted_for, simulated_for, area_left, simulated_returns}
use Rattle.simulator.proofs.Theory.Answers.{refusal-some}
use Rattle.certifier.specs.Listing.{refusal_line}
use Rattle.certifier.specs.SimulateEntry.{log_of_files, simulate_answer}
use Rattle.simulate_command.specs.Command.{printed}
use Rattle.simulate_command.specs.Steps.{answer_after, area_printed}

-- an answer of lengths, table and area that is told as a log's length
of-ok : (a : Result ℕ TableRefusal) (m : ℕ) → Ok m ≡ of_table a → a ≡ Ok m
of-ok (Ok k) m e = cc e
of-ok (Err r) m e = let z : ◌≡◌ {A = ℕ} 0 1 = cc e in absurd (omega arith)

module _ (check : Result (Unit {0}) TableRefusal) (seed n : ℕ) (log old : List ℕ) where
  -- A log that is written is the answer's.
  done : (m : ℕ) → Ok m ≡ simulated_for check seed n log old → answer_for (Ok tt) log old ≡ Ok m
  unfolding simulated_for wanted_for
  done m e = by-check check refl
    where
      by-check : (c : Result (Unit {0}) TableRefusal) → check ≡ c → answer_for (Ok tt) log old ≡ Ok m
      by-check (Err r) q = let z : ◌≡◌ {A = ℕ} 0 1 = cc (e ∙ ap (λ (c : Result (Unit {0}) TableRefusal). simulated_for c seed n log old) q) in absurd (omega arith)
      by-check (Ok tt) q =
          let wanted : Ok m ≡ wanted_for seed n log old = e ∙ ap (λ (c : Result (Unit {0}) TableRefusal). simulated_for c seed n log old) q in
          by-test (eqb seed 0)
          (λ t. let other : ◌≡◌ {A = Result ℕ Refusal} (Ok m) (Err ZeroSeed) = rw t at wanted in let z : ◌≡◌ {A = ℕ} 0 1 = cc other in absurd (omega arith))
          (λ f. by-test (between 1 1600 n)
          (λ t. let same : Ok m ≡ of_table (answer_for (Ok tt) log old) = rw (f, t) at wanted in of-ok _ m same)
          (λ g. let other : ◌≡◌ {A = Result ℕ Refusal} (Ok m) (Err LineCount) = rw (f, g) at wanted in let z : ◌≡◌ {A = ℕ} 0 1 = cc other in absurd (omega arith)))

  -- what is printed
  abbrev text : Result ℕ Refusal → List ℕ
  text s = cond (eqb (simulated_returns s).number 0) log (refusal_line (simulated_returns s).number (simulated_returns s).place)

  pub printed-by : (s : Result ℕ Refusal) → s ≡ simulated_for check seed n log old → (mid : List ℕ) → mid ≡ area_left s log old
      → (answer_after (simulated_returns s) mid ≡ answer_for (Ok tt) (text s) old) × (area_printed (simulated_returns s) mid ≡ area_after (answer_for (Ok tt) (text s) old) (text s) old)
  unfolding simulated_returns answer_after area_printed area_left
  printed-by (Ok m) is mid left =
      (sym (done m is), left ∙ ap (λ (a : Result ℕ TableRefusal). area_after a log old) (sym (done m is)))
  printed-by (Err r) is mid left = rw (ne_eqb _ _ (refusal-some r), left) (refl, refl)

-- The line of a refusal, where there is one.
pub line-printed : (r : Answered) (old : List ℕ) → (r.number ≡ 0 → ⊥) → {a : Result ℕ TableRefusal} {l : List ℕ}
    → (a ≡ answer_for (Ok tt) (refusal_line r.number r.place) old) × (l ≡ area_after a (refusal_line r.number r.place) old)
    → (a ≡ answer_after r old) × (l ≡ area_printed r old)
unfolding answer_after area_printed
line-printed r old some both =
    rw (ne_eqb _ _ some) (both.0, both.1 ∙ ap (λ (a : Result ℕ TableRefusal). area_after a (refusal_line r.number r.place) old) both.0)

-- What is printed of an input.
pub input-printed : (seed n : ℕ) (input old : List ℕ) {s : Result ℕ Refusal} {mid : List ℕ} {a : Result ℕ TableRefusal} {l : List ℕ}
    → s ≡ simulate_answer (lengths_part input) (table_part input) seed n old → mid ≡ area_left s (log_of_files (lengths_part input) (table_part input) seed n) old
    → (a ≡ answer_after (simulated_returns s) mid) × (l ≡ area_printed (simulated_returns s) mid)
    → (a ≡ answer_for (Ok tt) (printed seed n input old) old) × (l ≡ area_after a (printed seed n input old) old)
unfolding printed
input-printed seed n input old {s} {mid} is left both =
    let check : Result (Unit {0}) TableRefusal = input_check (lengths_part input) (table_part input) in
    let log : List ℕ = log_of_files (lengths_part input) (table_part input) seed n in
    let by = printed-by check seed n log old s is mid left in
    let same : text check seed n log old s ≡ printed seed n input old = ap (text check seed n log old) is in
    let answers = both.0 ∙ by.0 ∙ ap (λ (x : List ℕ). answer_for (Ok tt) x old) same in (
      answers,
      both.1 ∙ by.1 ∙ ap (λ (x : List ℕ). area_after (answer_for (Ok tt) x old) x old) same ∙ sym (ap (λ (a : Result ℕ TableRefusal). area_after a (printed seed n input old) old) answers),
    )
