-- What the operation promises, where the log is turned back and where it is accepted.
use Rattle.std.specs.Prelude.{ℕ, ◌≡◌, refl, List, Result, Ok, Err}
use Rattle.std.proofs.Common.{sym, ap, ◌∙◌}
use Rattle.log_load.specs.declared.Refusal.{Refusal}
use Rattle.log_check.specs.declared.Refusal.{Refusal as LogRefusal}
use Rattle.log_check.specs.Check.{lines_of}
use Rattle.log_check.specs.Returns.{LogReturned, log_returns}
use Rattle.log_load.specs.Refusal.{of_log}
use Rattle.log_load.specs.Sheet.{sheet_of}
use Rattle.log_load.specs.Answer.{width_answer, outcome_answer, area_after}
use Rattle.log_load.specs.Returns.{answer_returns, returns_after}
use Rattle.log_load.specs.Meaning.{Says}
use Rattle.log_load.specs.Theory.Meaning.{Ready, refused-done, sheet-says}
use Rattle.log_load.specs.Theory.Returns.{answer-told}

-- the clauses of the contract: the check of the log is to give `answer`, and return `returned`
abbrev Promised : List (List ℕ) → List ℕ → List ℕ → ℕ → List ℕ → Result (List ℕ) LogRefusal → LogReturned → Result ℕ Refusal → List ℕ → Type 0
Promised ls rows text w old answer returned r new =
    (r ≡ outcome_answer answer rows (lines_of text) w old)
    × ((new ≡ area_after r (sheet_of rows (lines_of text) w) old)
    × (((n : ℕ) → r ≡ Ok n → Says ls rows text w n) × (answer_returns r ≡ returns_after returned rows (lines_of text) w old)))

module _ (ls : List (List ℕ)) (rows text : List ℕ) (w : ℕ) (old : List ℕ) (checked answer : Result (List ℕ) LogRefusal) (returned : LogReturned)
    (is : checked ≡ answer) (numbers : log_returns checked ≡ returned) where
  answered : (r : Result ℕ Refusal) → r ≡ outcome_answer checked rows (lines_of text) w old → r ≡ outcome_answer answer rows (lines_of text) w old
  answered r e = e ∙ ap (λ (a : Result (List ℕ) LogRefusal). outcome_answer a rows (lines_of text) w old) is

  pub told-refused : {f : LogRefusal} (r : Result ℕ Refusal) → checked ≡ Err f → r ≡ Err (of_log f) → Promised ls rows text w old answer returned r old
  unfolding outcome_answer
  told-refused {f} r refused e =
      let same : r ≡ outcome_answer checked rows (lines_of text) w old = rw refused e in
      rw e (rw e at (answered r same), (refl, (λ n d. refused-done (of_log f) n d, rw e at (answer-told rows (lines_of text) w old checked returned numbers same))))

  pub told-accepted : (r : Result ℕ Refusal) (new : List ℕ) {starts : List ℕ} → checked ≡ Ok starts → Ready ls rows text
      → (r ≡ width_answer rows (lines_of text) w old) × (new ≡ area_after r (sheet_of rows (lines_of text) w) old) → Promised ls rows text w old answer returned r new
  unfolding outcome_answer
  told-accepted r new accepted ok (e, area) =
      let same : r ≡ outcome_answer checked rows (lines_of text) w old = rw accepted e in
      (answered r same, (area, (λ n d. sheet-says ls rows text w old n ok (sym e ∙ d), answer-told rows (lines_of text) w old checked returned numbers same)))
