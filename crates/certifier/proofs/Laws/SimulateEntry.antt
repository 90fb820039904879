-- The answers of a simulation as numbers.
use Rattle.std.specs.Prelude.{ℕ, ◌*◌, ◌≡◌, refl, List, eqb, ℤ, length, Result, Ok, Err}
use Rattle.std.proofs.Common.{ap, ◌∙◌, arith, ne_eqb}
use Rattle.table_checks.specs.declared.Refusal.{Refusal as TableRefusal}
use Rattle.arith.specs.Laws.Tests.{by-test}
use Rattle.table_checks.specs.Columns.{between}
use Rattle.table_checks.proofs.Laws.Limits.{between-true}
use Rattle.table_checks.proofs.Laws.Returns.{number-some}
use Rattle.frame_table.specs.Table.{answer_returns}
use Rattle.row_judgement.specs.Refusal.{number_of}
use Rattle.simulator.specs.declared.Refusal.{Refusal}
use Rattle.simulator.specs.Simulate.{of_table, wanted_for, simulated_for, area_left, simulated_returns}
use Rattle.simulator.proofs.Theory.Answers.{length-text}
use Rattle.certifier.specs.Encode.{encode_refusal, encode_answer}
use Rattle.certifier.specs.LogEntry.{encode_answered}
use Rattle.certifier.specs.Steps.{Countable}
use Rattle.certifier.specs.SimulateEntry.{simulate_answer, CountableLog}
use Rattle.certifier.proofs.Laws.Answers.{countable}

-- The number of an answer is that of what it returns.
pub answer-encoded : (a : Result ℕ TableRefusal) → encode_answer a ≡ encode_answered (answer_returns a)
unfolding encode_answer encode_refusal encode_answered answer_returns number_of
answer-encoded (Ok n) = refl
answer-encoded (Err r) = rw (ne_eqb _ _ (number-some r.cause))

-- A log is as long as what lengths, table and area decide.
table-countable : (a : Result ℕ TableRefusal) → Countable a → CountableLog (of_table a)
table-countable (Ok n) few = few
table-countable (Err r) few = tt

-- No log is too long.
log-countable : (check : Result (Unit {0}) TableRefusal) (seed n : ℕ) (new old : List ℕ) → length new ≡ 40 * n → CountableLog (simulated_for check seed n new old)
unfolding simulated_for wanted_for
log-countable (Err r) seed n new old size = tt
log-countable (Ok _) seed n new old size =
    by-test (eqb seed 0)
    (λ t. rw t tt)
    (λ f. rw f (
    by-test (between 1 1600 n) (λ t. rw t (table-countable _ (countable (Ok tt) new old (λ e. omega (arith, size, between-true 1 1600 n t))))) (λ g. rw g tt)))

pub answer-countable : (lengths file : List ℕ) (seed n : ℕ) (out : List ℕ) → CountableLog (simulate_answer lengths file seed n out)
answer-countable lengths file seed n out = log-countable _ seed n _ out (length-text _ _ seed n)

-- The answer may be named by what it equals, in the number and in the area.
pub log-named : (new old : List ℕ) {a is : Result ℕ Refusal} {n : ℤ} {area : List ℕ} → a ≡ is → n ≡ encode_answered (simulated_returns a) → area ≡ area_left a new old
    → (n ≡ encode_answered (simulated_returns is)) × (area ≡ area_left is new old)
log-named new old e number left =
    (number ∙ ap (λ (a : Result ℕ Refusal). encode_answered (simulated_returns a)) e, left ∙ ap (λ (a : Result ℕ Refusal). area_left a new old) e)
