-- Answers as numbers: the results of accepted tables are short, so that their lengths fit.
use Rattle.std.specs.Prelude.{ℕ, ◌^◌, ◌<◌, ◌≡◌, refl, Bool, true, false, cond, List, ltb, ℤ, length, Result, Ok, Err}
use Rattle.std.proofs.Common.{ap, ◌∙◌, arith}
use Rattle.table_checks.specs.declared.Refusal.{Refusal}
use Rattle.table_checks.specs.declared.Cause.TheVariants.{OutputArea}
use Rattle.table_checks.proofs.Laws.First.{first-passed}
use Rattle.table_checks.proofs.Laws.Accepted.{accepted-size}
use Rattle.frame_table.specs.Text.{fields_of}
use Rattle.frame_table.specs.Table.{read_check, answer_for, area_after}
use Rattle.frame_table.specs.Laws.RoundTrip.{text-read}
use Rattle.lengths_file.specs.Lengths.{lengths_of, lengths_file_check}
use Rattle.lengths_file.specs.Input.{input_check}
use Rattle.load_sheet.specs.Sheet.{sheet_of}
use Rattle.load_sheet.proofs.Laws.Sheet.{sheet-most}
use Rattle.bus_model.specs.declared.Faults.TheVariants.{Never, Apart}
use Rattle.row_judgement.specs.declared.Cause.TheVariants.{GapOutside}
use Rattle.row_judgement.specs.Judge.{is_gap}
use Rattle.certifier.specs.Encode.{list_answer, sheet_answer, encode_answer}
use Rattle.certifier.specs.Listing.{listing_of}
use Rattle.certifier.specs.FaultsListing.{listed_by, list_faults_rows, list_faults_read, list_faults_file}
use Rattle.certifier.specs.Steps.{Countable}
use Rattle.certifier.proofs.Laws.Listing.{length-listing}

-- An answer fits where the result does.
pub countable : (check : Result (Unit {0}) Refusal) (new old : List ℕ) → (check ≡ Ok tt → length new < 2 ^ 63) → Countable (answer_for check new old)
countable (Err f) new old most = tt
countable (Ok _) new old most = by-room (ltb (length old) (length new))
  where
    by-room : (short : Bool) → Countable {E = Refusal} (cond short (Err (record { cause = OutputArea; place = 0 })) (Ok (length new)))
    by-room true = tt
    by-room false = most refl

pub list-countable : (lengths file out : List ℕ) → Countable (list_answer lengths file out)
unfolding input_check
list-countable lengths file out =
    countable (input_check lengths file) (listing_of Never (lengths_of lengths) (fields_of file)) out
    (λ e. let most = (accepted-size (fields_of file) (text-read file (first-passed (lengths_file_check lengths) (read_check file) e).1).0).most in
    let size = length-listing Never (lengths_of lengths) (fields_of file) in omega arith)

pub sheet-countable : (lengths file out : List ℕ) → Countable (sheet_answer lengths file out)
sheet-countable lengths file out =
    countable (input_check lengths file) (sheet_of (lengths_of lengths) (fields_of file)) out (λ e. omega (arith, sheet-most (lengths_of lengths) (fields_of file)))

-- A listing under faults is as short.
faults-listed : (a : Result ℕ Refusal) → Countable a → Countable (listed_by a)
faults-listed (Ok n) most = most
faults-listed (Err f) most = tt

pub faults-countable : (lengths file : List ℕ) (g : ℕ) (old : List ℕ) → Countable (list_faults_file lengths file g old)
unfolding input_check list_faults_read list_faults_rows
faults-countable lengths file g old = by-check (input_check lengths file) refl
  where
    listing : List ℕ
    listing = listing_of (Apart g) (lengths_of lengths) (fields_of file)

    by-gap : (gap : Bool) → Countable (answer_for (Ok tt) listing old) → Countable (cond gap (listed_by (answer_for (Ok tt) listing old)) (Err (record { cause = GapOutside; place = 0 })))
    by-gap true most = faults-listed (answer_for (Ok tt) listing old) most
    by-gap false most = tt

    by-check : (check : Result (Unit {0}) Refusal) → input_check lengths file ≡ check → Countable (list_faults_read check (lengths_of lengths) file g old)
    by-check (Err f) e = tt
    by-check (Ok tt) e =
        by-gap (is_gap g)
        (countable (Ok tt) listing old
        (λ is. let most = (accepted-size (fields_of file) (text-read file (first-passed (lengths_file_check lengths) (read_check file) e).1).0).most in
        let size = length-listing (Apart g) (lengths_of lengths) (fields_of file) in omega arith))

-- An operation's answer may be named by what it equals, in the number and in the area.
pub named : (new old : List ℕ) {a is : Result ℕ Refusal} {n : ℤ} {area : List ℕ} → a ≡ is → n ≡ encode_answer a → area ≡ area_after a new old
    → (n ≡ encode_answer is) × (area ≡ area_after is new old)
named new old e number left = (number ∙ ap encode_answer e, left ∙ ap (λ (a : Result ℕ Refusal). area_after a new old) e)
