-- What listing under faults returns in numbers: it settles the answer, and comes in document 02's order.
use Rattle.std.specs.Prelude.{ℕ, ◌≡◌, List, ltb, length, Result, Ok, Err}
use Rattle.std.proofs.Common.{ap, ap₂, sym, ◌∙◌}
use borrow.Author.Tests.{ne_eqb}
use Rattle.row_judgement.specs.declared.Refusal.{Refusal}
use Rattle.table_checks.specs.declared.Refusal.{Refusal as TableRefusal}
use Rattle.arith.specs.Laws.Tests.{by-test}
use Rattle.bus_model.specs.declared.Faults.TheVariants.{Apart}
use Rattle.table_checks.specs.Refusal.{number_of as table_number_of, returned, check_returns}
use Rattle.table_checks.specs.Returns.{first_returned}
use Rattle.table_checks.proofs.Laws.Returns.{number-some as table-number-some}
use Rattle.frame_table.specs.Text.{fields_of}
use Rattle.frame_table.specs.Table.{Answered, answer_for, returns_for}
use Rattle.lengths_file.specs.Lengths.{lengths_of}
use Rattle.lengths_file.specs.Input.{input_check}
use Rattle.lengths_file.proofs.Laws.Input.{input-returned}
use Rattle.row_judgement.specs.Refusal.{number_of}
use Rattle.row_judgement.specs.Judge.{is_gap}
use Rattle.row_judgement.specs.Laws.Returns.{number-some, number-settles}
use Rattle.certifier.specs.Listing.{listing_of}
use Rattle.certifier.specs.FaultsListing.{listed_by, list_faults_rows, list_faults_read, list_faults_file, listed_file, listed_returns, gap_returns, list_faults_returns}

-- Answers that return the same are the same.
pub listed-settles : (a b : Result ℕ Refusal) → listed_returns a ≡ listed_returns b → a ≡ b
unfolding listed_returns
listed-settles (Ok m) (Ok n) e = ap Ok (ap (λ (r : Answered). r.written) e)
listed-settles (Ok m) (Err g) e = absurd (number-some g.cause (sym (ap (λ (r : Answered). r.number) e)))
listed-settles (Err f) (Ok n) e = absurd (number-some f.cause (ap (λ (r : Answered). r.number) e))
listed-settles (Err f) (Err g) e =
    ap₂ (λ cause place. Err (record { cause = cause; place = place }))
    (number-settles f.cause g.cause (ap (λ (r : Answered). r.number) e)) (ap (λ (r : Answered). r.place) e)

-- ---- the order

room-returned : (new old : List ℕ) → listed_returns (listed_by (answer_for (Ok tt) new old)) ≡ returns_for (returned 0 0) new old
unfolding listed_returns returns_for number_of table_number_of
room-returned new old = by-test (ltb (length old) (length new)) (λ t. rw t) (λ f. rw f)

module _ (ls : List (List ℕ)) (file : List ℕ) (g : ℕ) (old : List ℕ) where
  abbrev listing : List ℕ
  listing = listing_of (Apart g) ls (fields_of file)

  rows-returned : listed_returns (list_faults_rows ls (fields_of file) g old) ≡ returns_for (gap_returns g) listing old
  unfolding list_faults_rows gap_returns listed_returns returns_for number_of
  rows-returned = by-test (is_gap g) (λ t. rw t (room-returned listing old)) (λ f. rw f)

  read-returned : (check : Result (Unit {0}) TableRefusal) → listed_returns (list_faults_read check ls file g old) ≡ returns_for (first_returned (check_returns check) (gap_returns g)) listing old
  unfolding list_faults_read check_returns listed_returns returns_for number_of
  read-returned (Ok tt) = rows-returned
  read-returned (Err f) = let no = ne_eqb _ 0 (table-number-some f.cause) in rw (no, no)

-- What the code answers is told in numbers too.
pub listed-told : (lengths file : List ℕ) (g : ℕ) (old : List ℕ) {a : Result ℕ Refusal} {l : List ℕ} → (a ≡ list_faults_file lengths file g old) × (l ≡ listed_file lengths file g old)
    → (a ≡ list_faults_file lengths file g old) × ((l ≡ listed_file lengths file g old) × (listed_returns a ≡ list_faults_returns lengths file g old))
listed-told lengths file g old both =
    (both.0, (both.1, ap listed_returns both.0 ∙ read-returned (lengths_of lengths) file g old (input_check lengths file) ∙ rw (input-returned lengths file)))
