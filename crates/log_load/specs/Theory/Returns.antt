-- What is returned in numbers: it settles the answer, and comes in document 02's order.
use Rattle.std.specs.Prelude.{ℕ, ◌≡◌, refl, cond, List, eqb, ltb, length, Result, Ok, Err}
use Rattle.std.proofs.Common.{sym, ap, ◌∙◌, arith}
use borrow.Author.Tests.{ne_eqb}
use Rattle.log_load.specs.declared.Refusal.{Refusal}
use Rattle.arith.specs.Laws.Tests.{by-test}
use Rattle.table_checks.specs.declared.Cause.TheVariants.{OutputArea}
use Rattle.table_checks.specs.Refusal.{number_of as table_number_of, returned}
use Rattle.table_checks.proofs.Laws.Returns.{number-range, cause_of as table_cause_of, cause-back as table-cause-back}
use Rattle.frame_table.specs.Table.{Answered, returns_for}
use Rattle.bus_log.specs.declared.Line.{Line}
use Rattle.bus_log.specs.Log.{last_end}
use Rattle.log_check.specs.declared.Cause.TheVariants.{Table, Notation, Contradiction}
use Rattle.log_check.specs.declared.Refusal.{Refusal as LogRefusal}
use Rattle.log_check.specs.Refusal.{number_of as log_number_of}
use Rattle.log_check.specs.Returns.{LogReturned, log_returns}
use Rattle.log_check.specs.Laws.Returns.{number-some}
use Rattle.log_load.specs.declared.Cause.{Cause}
use Rattle.log_load.specs.declared.Cause.TheVariants.{Log, Width}
use Rattle.log_load.specs.Refusal.{number_of}
use Rattle.log_load.specs.Sheet.{sheet_of}
use Rattle.log_load.specs.Answer.{is_no_width, refused_at, width_answer, outcome_answer}
use Rattle.log_load.specs.Returns.{answer_returns, width_returns, returns_after}

-- ---- the order

module _ (rows : List ℕ) (log : List Line) (w : ℕ) (old : List ℕ) where
  room-returned : answer_returns (cond (ltb (length old) (length (sheet_of rows log w))) (refused_at (Log (Table OutputArea)) 0) (Ok (length (sheet_of rows log w))))
      ≡ returns_for (returned 0 0) (sheet_of rows log w) old
  unfolding answer_returns returns_for number_of log_number_of table_number_of
  room-returned = by-test (ltb (length old) (length (sheet_of rows log w))) (λ t. rw t) (λ f. rw f)

  width-returned : answer_returns (width_answer rows log w old) ≡ returns_for (width_returns w (last_end log)) (sheet_of rows log w) old
  unfolding answer_returns width_answer width_returns returns_for number_of log_number_of
  width-returned = by-test (is_no_width w (last_end log)) (λ t. rw t) (λ f. rw f room-returned)

  outcome-returned : (outcome : Result (List ℕ) LogRefusal) → answer_returns (outcome_answer outcome rows log w old) ≡ returns_after (log_returns outcome) rows log w old
  unfolding outcome_answer log_returns returns_after answer_returns returns_for number_of
  outcome-returned (Ok starts) = width-returned
  outcome-returned (Err f) = let no = ne_eqb _ 0 (number-some f.cause) in rw (no, no)

-- ---- what it settles

-- the cause with this number
cause_of : ℕ → Cause
cause_of n =
    cond (eqb n 20) Width
    (cond (eqb n 18) (Log Notation)
    (cond (eqb n 19) (Log Contradiction) (Log (Table (table_cause_of n)))))

cause-back : (cause : Cause) → cause_of (number_of cause) ≡ cause
unfolding cause_of number_of log_number_of
cause-back Width = refl
cause-back (Log Notation) = refl
cause-back (Log Contradiction) = refl
cause-back (Log (Table cause)) =
    let n : ℕ = table_number_of cause in
    let r = number-range cause in
    rw (ne_eqb n 20 (λ e. omega arith), ne_eqb n 18 (λ e. omega arith), ne_eqb n 19 (λ e. omega arith), table-cause-back cause)

pub cause-some : (cause : Cause) → number_of cause ≡ 0 → ⊥
unfolding number_of
cause-some Width e = omega arith
cause-some (Log cause) e = number-some cause e

answer_of : Answered → Result ℕ Refusal
answer_of a = cond (eqb a.number 0) (Ok a.written) (Err (record { cause = cause_of a.number; place = a.place }))

answer_back : (a : Result ℕ Refusal) → answer_of (answer_returns a) ≡ a
unfolding answer_of answer_returns
answer_back (Ok n) = refl
answer_back (Err f) = rw (ne_eqb _ _ (cause-some f.cause), cause-back f.cause)

-- Answers that return the same are the same.
pub answer-settles : (a b : Result ℕ Refusal) → answer_returns a ≡ answer_returns b → a ≡ b
answer-settles a b e = sym (answer_back a) ∙ ap answer_of e ∙ answer_back b

-- ---- what the code answers, told in numbers

pub answer-told : (rows : List ℕ) (log : List Line) (w : ℕ) (old : List ℕ) (checked : Result (List ℕ) LogRefusal) (returned : LogReturned) {a : Result ℕ Refusal}
    → log_returns checked ≡ returned → a ≡ outcome_answer checked rows log w old → answer_returns a ≡ returns_after returned rows log w old
answer-told rows log w old checked returned numbers is =
    ap answer_returns is ∙ outcome-returned rows log w old checked ∙ ap (λ (r : LogReturned). returns_after r rows log w old) numbers
