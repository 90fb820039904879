-- An answer that is the definition's says what that says, and returns what that returns.
use Prim.Native.Nat.{ℕ}
use Rattle.std.specs.Prelude.{◌≡◌, Result, Ok}
use Rattle.std.proofs.Common.{sym, ◌∙◌}
use Rattle.std.proofs.Math.Path.{ap, subst}
use mathlib.Core.List.{List}
use Rattle.table_checks.specs.declared.Refusal.{Refusal}
use Rattle.table_checks.specs.Checks.{Loadable, Accepted, loaded_check}
use Rattle.table_checks.specs.Returns.{loaded_returns}
use Rattle.table_checks.proofs.Laws.First.{first-passed}
use Rattle.table_checks.proofs.Laws.Accepted.{loaded-both}
use Rattle.table_checks.proofs.Laws.Returns.{loaded-returned}
use Rattle.frame_table.specs.Text.{fields_of}
use Rattle.frame_table.specs.Table.{read_check}
use Rattle.frame_table.specs.Laws.RoundTrip.{text-read}
use Rattle.lengths_file.specs.Lengths.{lengths_file_check, lengths_of}
use Rattle.lengths_file.specs.Input.{input_check}
use Rattle.lengths_file.proofs.Laws.Reading.{loaded-lengths}
use Rattle.lengths_file.proofs.Laws.Input.{input-returned}
use Rattle.log_check.specs.declared.Refusal.{Refusal as LogRefusal}
use Rattle.log_check.specs.Check.{checked_answer, log_answer, files_answer}
use Rattle.log_check.specs.Verdict.{Says, SaysOf}
use Rattle.log_check.specs.Returns.{log_returns, log_returns_for, files_returns}
use Rattle.log_check.specs.Laws.Meaning.{MeansOf, answer-means}
use Rattle.log_check.specs.Laws.Returns.{checked-returns}

-- for rows in memory
pub told : (ls : List (List ℕ)) (rows text : List ℕ) {a : Result (List ℕ) LogRefusal} {c : Result (Unit {0}) Refusal} → c ≡ loaded_check ls rows → a ≡ checked_answer c ls rows text
    → (a ≡ log_answer ls rows text) × (Says ls rows text a × (log_returns a ≡ log_returns_for (loaded_returns ls rows) ls rows text))
told ls rows text {a} {c} is e = (
  is-answer,
  (
    subst (MeansOf ls rows text (loaded_check ls rows)) (sym full) (answer-means ls rows text (loaded_check ls rows) (loaded-both ls rows)),
    ap log_returns full ∙ checked-returns ls rows text (loaded_check ls rows) ∙ ap (λ r. log_returns_for r ls rows text) (loaded-returned ls rows),
  ),
)
  where
    full : a ≡ checked_answer (loaded_check ls rows) ls rows text
    full = e ∙ ap (λ (k : Result (Unit {0}) Refusal). checked_answer k ls rows text) is

    is-answer : a ≡ log_answer ls rows text
    is-answer = unfold log_answer in full

-- for lengths and table as bytes
module _ (lengths table : List ℕ) where
  input-both : input_check lengths table ≡ Ok tt → Loadable (lengths_of lengths) × Accepted (fields_of table)
  unfolding input_check
  input-both e =
      let (a, b) = first-passed (lengths_file_check lengths) (read_check table) e in
      ((loaded-lengths lengths a).1, (text-read table b).0)

  pub files-told : (text : List ℕ) {a : Result (List ℕ) LogRefusal} → a ≡ files_answer lengths table text
      → (a ≡ files_answer lengths table text) × (SaysOf lengths table text a × (log_returns a ≡ files_returns lengths table text))
  unfolding files_answer files_returns
  files-told text {a} e =
      let ls : List (List ℕ) = lengths_of lengths in
      let rows : List ℕ = fields_of table in
      let check : Result (Unit {0}) Refusal = input_check lengths table in (
        e,
        (
          subst (MeansOf ls rows text check) (sym e) (answer-means ls rows text check input-both),
          ap log_returns e ∙ checked-returns ls rows text check ∙ ap (λ r. log_returns_for r ls rows text) (input-returned lengths table),
        ),
      )
