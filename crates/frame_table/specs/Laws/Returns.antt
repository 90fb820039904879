-- What an operation returns in numbers: it settles the answer, and is what the check returns, or 8, or the count.
use Rattle.std.specs.Prelude.{ℕ, ◌≡◌, refl, cond, List, eqb, Result, Ok, Err}
use Rattle.std.proofs.Common.{sym, ap, ◌∙◌, ne_eqb}
use Rattle.table_checks.specs.declared.Refusal.{Refusal}
use Rattle.arith.specs.Laws.Tests.{cond_map}
use Rattle.table_checks.specs.Refusal.{number_of, check_returns}
use Rattle.table_checks.proofs.Laws.Returns.{number-some, cause_of, cause-back}
use Rattle.frame_table.specs.Table.{answer_for, area_after, Answered, answer_returns, returns_for}

-- the answer that returns these numbers
answer_of : Answered → Result ℕ Refusal
answer_of a = cond (eqb a.number 0) (Ok a.written) (Err (record { cause = cause_of a.number; place = a.place }))

answer_back : (a : Result ℕ Refusal) → answer_of (answer_returns a) ≡ a
unfolding answer_of answer_returns
answer_back (Ok n) = refl
answer_back (Err r) = rw (ne_eqb _ _ (number-some r.cause), cause-back r.cause)

-- Answers that return the same are the same.
pub answer-settles : (a b : Result ℕ Refusal) → answer_returns a ≡ answer_returns b → a ≡ b
answer-settles a b e = sym (answer_back a) ∙ ap answer_of e ∙ answer_back b

answer-returned : (check : Result (Unit {0}) Refusal) (new old : List ℕ) → answer_returns (answer_for check new old) ≡ returns_for (check_returns check) new old
unfolding number_of check_returns answer_returns returns_for
answer-returned (Ok _) new old = simp (cond_map answer_returns)
answer-returned (Err r) new old = rw (ne_eqb _ _ (number-some r.cause))

-- What the code answers, and leaves in the area, is told in numbers too.
pub answer-told : (check : Result (Unit {0}) Refusal) (new old : List ℕ) {a : Result ℕ Refusal} {l : List ℕ} → (a ≡ answer_for check new old) × (l ≡ area_after a new old)
    → (a ≡ answer_for check new old) × ((l ≡ area_after a new old) × (answer_returns a ≡ returns_for (check_returns check) new old))
answer-told check new old both = (both.0, (both.1, ap answer_returns both.0 ∙ answer-returned check new old))
