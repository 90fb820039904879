-- The answers of the operation, in numbers and in the area.
use Rattle.std.specs.Prelude.{ℕ, ◌*◌, ◌≤◌, List, eqb, length, Result, Ok, Err}
use Rattle.std.proofs.Math.Path.{◌≡◌, refl, ap}
use Rattle.std.proofs.Common.{sym, ◌∙◌, arith, ne_eqb}
use Rattle.std.specs.Result.{IsErrAnd}
use Rattle.std.proofs.lemmas.Result.{err_from_is_err_and}
use Rattle.arith.specs.Laws.Tests.{by-test}
use Rattle.arith.specs.Laws.Lines.{length-lines}
use Rattle.table_checks.specs.Columns.{between}
use Rattle.table_checks.specs.Frames.{frames_of}
use Rattle.table_checks.specs.declared.Refusal.{Refusal as TableRefusal}
use Rattle.table_checks.specs.Checks.{loaded_check}
use Rattle.table_checks.specs.Returns.{loaded_returns}
use Rattle.table_checks.specs.Refusal.{Returned, check_returns}
use Rattle.table_checks.proofs.Laws.Accepted.{loaded-both}
use Rattle.table_checks.proofs.Laws.Returns.{number-some, number-range, loaded-returned}
use Rattle.frame_table.specs.Table.{Answered, answer_returns, area_after}
use Rattle.frame_table.specs.Laws.Returns.{answer-settles, answer-told}
use Rattle.lengths_file.specs.Input.{input_check, input_returns}
use Rattle.lengths_file.proofs.Laws.Input.{input-returned}
use Rattle.bus_log.specs.Log.{AcceptedLog}
use Rattle.simulator.specs.declared.Engine.{Engine}
use Rattle.simulator.specs.declared.Starts.{Starts}
use Rattle.simulator.specs.declared.Refusal.{Refusal}
use Rattle.simulator.specs.declared.Refusal.TheVariants.{Table, ZeroSeed, LineCount}
use Rattle.simulator.specs.Starts.{starts_drawn, first_of, engine_of}
use Rattle.simulator.specs.Text.{log_text, lines_from}
use Rattle.simulator.specs.Simulate.{log_of, text_of, of_table, wanted_for, simulated_for, area_left, refusal_returns, simulated_returns, simulate_returns}
use Rattle.simulator.proofs.Theory.Layout.{log-lines}
use Rattle.simulator.proofs.Theory.Follows.{simulated-accepted}

-- A log of n lines has 40 × n characters.
pub length-text : (ls : List (List ℕ)) (rows : List ℕ) (seed n : ℕ) → length (text_of ls rows seed n) ≡ 40 * n
unfolding text_of log_of
length-text ls rows seed n = length-lines (log-lines (frames_of ls rows) rows (engine_of (frames_of ls rows) seed)) n 0

-- It is what is written from the engine that the seed gives.
pub text-from : (ls : List (List ℕ)) (rows : List ℕ) (seed n : ℕ) {d : Starts} {first : Engine} → d ≡ starts_drawn (frames_of ls rows) seed 16
    → first ≡ first_of (frames_of ls rows) d → log_text (lines_from (frames_of ls rows) rows first n 0) ≡ text_of ls rows seed n
unfolding text_of log_of engine_of
text-from ls rows seed n drawn is = rw (is, drawn)

-- ---- in numbers

-- What lengths, table and area decide returns what it returned there, and leaves what it left there.
table-returned : (a : Result ℕ TableRefusal) → simulated_returns (of_table a) ≡ answer_returns a
unfolding simulated_returns refusal_returns answer_returns
table-returned (Ok n) = refl
table-returned (Err r) = refl

pub table-left : (a : Result ℕ TableRefusal) (new old : List ℕ) → area_left (of_table a) new old ≡ area_after a new old
unfolding area_left
table-left (Ok n) new old = refl
table-left (Err r) new old = refl

wanted-returned : (seed n : ℕ) (new old : List ℕ) → simulated_returns (wanted_for seed n new old) ≡ simulate_returns (check_returns (Ok tt)) seed n new old
unfolding wanted_for simulated_returns refusal_returns simulate_returns check_returns
wanted-returned seed n new old =
    by-test (eqb seed 0)
    (λ t. rw t)
    (λ f. rw f (
    by-test (between 1 1600 n) (λ t. rw t (table-returned _ ∙ (answer-told (Ok tt) new old (refl, refl)).1.1)) (λ g. rw g)))

simulated-returned : (check : Result (Unit {0}) TableRefusal) (seed n : ℕ) (new old : List ℕ)
    → simulated_returns (simulated_for check seed n new old) ≡ simulate_returns (check_returns check) seed n new old
unfolding simulated_for
simulated-returned (Ok _) seed n new old = wanted-returned seed n new old
simulated-returned (Err r) seed n new old = unfold simulated_returns refusal_returns simulate_returns check_returns in rw (ne_eqb _ _ (number-some r.cause))

-- What the code answers, and leaves in the area, is told in numbers too.
simulated-told : (check : Result (Unit {0}) TableRefusal) (returns : Returned) → check_returns check ≡ returns → (seed n : ℕ) (new old : List ℕ) {a : Result ℕ Refusal} {l : List ℕ}
    → (a ≡ simulated_for check seed n new old) × (l ≡ area_left a new old)
    → (a ≡ simulated_for check seed n new old) × ((l ≡ area_left a new old) × (simulated_returns a ≡ simulate_returns returns seed n new old))
simulated-told check returns e seed n new old both =
    (both.0, (both.1, ap simulated_returns both.0 ∙ simulated-returned check seed n new old ∙ rw e))

-- ---- what is promised of rows and of files

module _ (ls : List (List ℕ)) (rows : List ℕ) (seed n : ℕ) (old : List ℕ) where
  abbrev new : List ℕ
  new = text_of ls rows seed n

  -- a log that is written is accepted
  written-accepted : (a : Result ℕ Refusal) → a ≡ simulated_for (loaded_check ls rows) seed n new old → (m : ℕ) → a ≡ Ok m → AcceptedLog (frames_of ls rows) rows (log_of ls rows seed n)
  unfolding simulated_for
  written-accepted a is m done = by-check (loaded_check ls rows) refl
    where
      by-check : (c : Result (Unit {0}) TableRefusal) → loaded_check ls rows ≡ c → AcceptedLog (frames_of ls rows) rows (log_of ls rows seed n)
      by-check (Ok tt) q = let (loadable, accepted) = loaded-both ls rows q in simulated-accepted ls loadable rows accepted seed n
      by-check (Err r) q =
          let other : a ≡ Err (Table r) = is ∙ ap (λ (c : Result (Unit {0}) TableRefusal). simulated_for c seed n new old) q in
          let z : ◌≡◌ {A = ℕ} 0 1 = cc (sym done ∙ other) in
          absurd (omega arith)

  pub rows_told : {a : Result ℕ Refusal} {l : List ℕ} → (a ≡ simulated_for (loaded_check ls rows) seed n new old) × (l ≡ area_left a new old)
      → (a ≡ simulated_for (loaded_check ls rows) seed n new old) × ((l ≡ area_left a new old) × ((simulated_returns a ≡ simulate_returns (loaded_returns ls rows) seed n new old)
      × ((m : ℕ) → a ≡ Ok m → AcceptedLog (frames_of ls rows) rows (log_of ls rows seed n))))
  rows_told both =
      let told = simulated-told (loaded_check ls rows) (loaded_returns ls rows) (loaded-returned ls rows) seed n new old both in
      (both.0, (both.1, (told.1.1, written-accepted _ both.0)))

pub files-told : (lengths file : List ℕ) (seed n : ℕ) (new old : List ℕ) {a : Result ℕ Refusal} {l : List ℕ}
    → (a ≡ simulated_for (input_check lengths file) seed n new old) × (l ≡ area_left a new old)
    → (a ≡ simulated_for (input_check lengths file) seed n new old) × ((l ≡ area_left a new old) × (simulated_returns a ≡ simulate_returns (input_returns lengths file) seed n new old))
files-told lengths file = simulated-told (input_check lengths file) (input_returns lengths file) (input-returned lengths file)

-- What a `?` makes of a refusal of lengths, table or area.
pub converted : (a : Result ℕ Refusal) (r : TableRefusal) → IsErrAnd a (λ y. y ≡ Table r) → a ≡ Err (Table r)
converted a r e = let p = err_from_is_err_and a e in p.1 ∙ ap Err p.2

-- The area is left where a check failed.
pub left-refused : (check : Result (Unit {0}) TableRefusal) (r : TableRefusal) (seed n : ℕ) (new old : List ℕ) {a : Result ℕ Refusal} → check ≡ Err r → a ≡ Err (Table r)
    → (a ≡ simulated_for check seed n new old) × (old ≡ area_left a new old)
unfolding simulated_for area_left
left-refused check r seed n new old e is = rw (e, is) (refl, refl)

-- Where it passed, the answer is what is wanted.
pub left_passed : (check : Result (Unit {0}) TableRefusal) (seed n : ℕ) (new old : List ℕ) {a : Result ℕ Refusal} {l : List ℕ} → check ≡ Ok tt
    → (a ≡ wanted_for seed n new old) × (l ≡ area_left a new old) → (a ≡ simulated_for check seed n new old) × (l ≡ area_left a new old)
unfolding simulated_for
left_passed check seed n new old e both = (rw e both.0, both.1)

-- ---- answers that return the same

-- No refusal has the number 0.
pub refusal-some : (r : Refusal) → (refusal_returns r).number ≡ 0 → ⊥
unfolding refusal_returns
refusal-some (Table r) e = number-some r.cause e
refusal-some ZeroSeed e = omega arith
refusal-some LineCount e = omega arith

answer-number : (a : Result ℕ TableRefusal) → (answer_returns a).number ≤ 15
unfolding answer_returns
answer-number (Ok n) = omega arith
answer-number (Err r) = (number-range r.cause).1

-- 21 and 22 are no answer's
other : (a : Result ℕ TableRefusal) (b : Answered) → 16 ≤ b.number → answer_returns a ≡ b → ⊥
other a b high e = omega (arith, answer-number a, ap (λ (r : Answered). r.number) e)

-- Answers that return the same are the same.
pub simulated-settles : (a b : Result ℕ Refusal) → simulated_returns a ≡ simulated_returns b → a ≡ b
unfolding simulated_returns refusal_returns answer_returns
simulated-settles (Ok a) (Ok b) e = ap of_table (answer-settles (Ok a) (Ok b) e)
simulated-settles (Ok a) (Err (Table s)) e = ap of_table (answer-settles (Ok a) (Err s) e)
simulated-settles (Ok a) (Err ZeroSeed) e = absurd (other (Ok a) _ (omega arith) e)
simulated-settles (Ok a) (Err LineCount) e = absurd (other (Ok a) _ (omega arith) e)
simulated-settles (Err (Table r)) (Ok b) e = ap of_table (answer-settles (Err r) (Ok b) e)
simulated-settles (Err (Table r)) (Err (Table s)) e = ap of_table (answer-settles (Err r) (Err s) e)
simulated-settles (Err (Table r)) (Err ZeroSeed) e = absurd (other (Err r) _ (omega arith) e)
simulated-settles (Err (Table r)) (Err LineCount) e = absurd (other (Err r) _ (omega arith) e)
simulated-settles (Err ZeroSeed) (Ok b) e = absurd (other (Ok b) _ (omega arith) (sym e))
simulated-settles (Err ZeroSeed) (Err (Table s)) e = absurd (other (Err s) _ (omega arith) (sym e))
simulated-settles (Err ZeroSeed) (Err ZeroSeed) e = refl
simulated-settles (Err ZeroSeed) (Err LineCount) e = absurd (omega (arith, ap (λ (r : Answered). r.number) e))
simulated-settles (Err LineCount) (Ok b) e = absurd (other (Ok b) _ (omega arith) (sym e))
simulated-settles (Err LineCount) (Err (Table s)) e = absurd (other (Err s) _ (omega arith) (sym e))
simulated-settles (Err LineCount) (Err ZeroSeed) e = absurd (omega (arith, ap (λ (r : Answered). r.number) e))
simulated-settles (Err LineCount) (Err LineCount) e = refl
