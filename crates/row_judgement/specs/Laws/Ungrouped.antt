-- A row of a table without groups is judged as it was, and has the same precise bound, once the table is widened by a group equal to its
-- node.
use Rattle.std.specs.Prelude.{ℕ, ◌/◌, ◌%◌, ◌≡◌, cond, List, leb, length, Result, Ok, Err}
use Rattle.std.proofs.Math.Path.{refl, ap}
use Rattle.std.proofs.Common.{◌∙◌, arith}
use Rattle.bus_model.specs.declared.Judgement.{Judgement}
use Rattle.row_judgement.specs.declared.Refusal.{Refusal}
use Rattle.table_checks.specs.declared.Refusal.{Refusal as TableRefusal}
use Rattle.bus_model.specs.Frame.{row}
use Rattle.bus_model.specs.Judgement.{judge}
use Rattle.bus_model.specs.declared.Faults.TheVariants.{Never}
use Rattle.table_checks.specs.Columns.{claim_column}
use Rattle.table_checks.specs.Checks.{first, lengths_check, loaded_check}
use Rattle.table_checks.proofs.Laws.Ungrouped.{plain_columns, plain_field, plain_frames, plain_check, widened, widened-field, rows-widened, widened-frames, widened-check}
use Rattle.row_judgement.specs.declared.Cause.TheVariants.{NoSuchRow}
use Rattle.row_judgement.specs.Refusal.{of_table}
use Rattle.row_judgement.specs.Judge.{judge_checked, judge_row, bound_frame, bound_checked, bound_row}

-- ---- a table without groups

-- the claim of row r
abbrev pub plain_claim : List ℕ → ℕ → ℕ
plain_claim t r = plain_field t r 6

unfoldable pub plain_loaded_check : List (List ℕ) → List ℕ → Result (Unit {0}) TableRefusal
plain_loaded_check ls t = first (lengths_check ls) (plain_check t)

unfoldable pub plain_judge_checked : Result (Unit {0}) TableRefusal → List (List ℕ) → List ℕ → ℕ → Result Judgement Refusal
plain_judge_checked (Err f) ls t r = Err (of_table f)
plain_judge_checked (Ok _) ls t r =
    cond (leb (length t / plain_columns) r) (Err (record { cause = NoSuchRow; place = 0 }))
    (Ok (judge Never (plain_frames ls t) (row (plain_frames ls t) r) (plain_claim t r)))

unfoldable pub plain_judge_row : List (List ℕ) → List ℕ → ℕ → Result Judgement Refusal
plain_judge_row ls t r = plain_judge_checked (plain_loaded_check ls t) ls t r

unfoldable pub plain_bound_checked : Result (Unit {0}) TableRefusal → List (List ℕ) → List ℕ → ℕ → Result ℕ Refusal
plain_bound_checked (Err f) ls t r = Err (of_table f)
plain_bound_checked (Ok _) ls t r =
    cond (leb (length t / plain_columns) r) (Err (record { cause = NoSuchRow; place = 0 })) (bound_frame (plain_frames ls t) r)

unfoldable pub plain_bound_row : List (List ℕ) → List ℕ → ℕ → Result ℕ Refusal
plain_bound_row ls t r = plain_bound_checked (plain_loaded_check ls t) ls t r

-- ---- the same

module _ (ls : List (List ℕ)) (t : List ℕ) (whole : length t % plain_columns ≡ 0) (r : ℕ) where
  loaded-as-before : loaded_check ls (widened t) ≡ plain_loaded_check ls t
  unfolding loaded_check plain_loaded_check
  loaded-as-before = ap (first (lengths_check ls)) (widened-check t whole)

  -- The judgement,
  pub judged-as-before : judge_row ls (widened t) r ≡ plain_judge_row ls t r
  unfolding judge_row judge_checked plain_judge_row plain_judge_checked
  judged-as-before = ap (λ (c : Result (Unit {0}) TableRefusal). judge_checked c ls (widened t) r) loaded-as-before ∙ go (plain_loaded_check ls t)
    where
      go : (c : Result (Unit {0}) TableRefusal) → judge_checked c ls (widened t) r ≡ plain_judge_checked c ls t r
      go (Err f) = refl
      go (Ok tt) = rw (rows-widened t whole, widened-frames t whole ls, widened-field t whole r claim_column (omega arith))

  -- and the bound.
  pub bounded-as-before : bound_row ls (widened t) r ≡ plain_bound_row ls t r
  unfolding bound_row bound_checked plain_bound_row plain_bound_checked
  bounded-as-before = ap (λ (c : Result (Unit {0}) TableRefusal). bound_checked c ls (widened t) r) loaded-as-before ∙ go (plain_loaded_check ls t)
    where
      go : (c : Result (Unit {0}) TableRefusal) → bound_checked c ls (widened t) r ≡ plain_bound_checked c ls t r
      go (Err f) = refl
      go (Ok tt) = rw (rows-widened t whole, widened-frames t whole ls)
