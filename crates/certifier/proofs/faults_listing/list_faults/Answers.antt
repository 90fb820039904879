-- A refusal of the files is answered; then one of the gap; else the rows are listed, where they have room.
use Rattle.std.specs.Prelude.{ℕ, Result, Ok}
use mathlib.Core.Bool.{true}
use mathlib.Core.List.{List}
use mathlib.Core.Path.{◌≡◌, refl, ap, ◌∙◌}
use Rattle.std.proofs.lemmas.Result.{err_from_is_err_and}
use Rattle.bus_model.specs.declared.Faults.TheVariants.{Apart}
use Rattle.table_checks.specs.declared.Refusal.{Refusal as TableRefusal}
use Rattle.frame_table.specs.Table.{answer_for, area_after}
use Rattle.row_judgement.specs.Judge.{is_gap}
use Rattle.row_judgement.specs.Laws.Judged.{gap-fine}
use Rattle.certifier.specs.Listing.{listing_of}
use Rattle.certifier.specs.FaultsListing.{listed_by, list_faults_rows, listed_rows, list_faults_read, listed_read}
use Rattle.certifier.proofs.Laws.FaultsListing.{listed-told}
use Rattle.certifier.proofs.faults_listing.list_faults.Goals as goal

pub returns-in_err-table : goal.returns-in_err-table
unfolding list_faults_read listed_read
returns-in_err-table c =
    let p = err_from_is_err_and c.from_residual.result c.from_residual.ensures.1 in
    let answer = listed-told _ _ _ _ (rw (p.1, p.2, c.in_err-table.ensures) (refl, refl)) in record { value = answer.0; out_after = answer.1.0; in_numbers = answer.1.1 }

pub returns-in_err-faults : goal.returns-in_err-faults
unfolding list_faults_read listed_read list_faults_rows listed_rows
returns-in_err-faults c =
    let p = err_from_is_err_and c.from_residual-in_err-faults.result c.from_residual-in_err-faults.ensures.1 in
    let answer = listed-told _ _ _ _ (rw (p.1, p.2, c.in_err-faults.ensures.1, c.in_ok-table.ensures.0, c.in_err-faults.ensures.0) (refl, refl)) in
    record { value = answer.0; out_after = answer.1.0; in_numbers = answer.1.1 }

pub list_rows-requires : goal.list_rows-requires
list_rows-requires c = rw c.in_ok-faults.ensures.1 (gap-fine c.args.gap c.in_ok-faults.ensures.0)

-- what listing the rows answers, and leaves
rows-listed : (ls : List (List ℕ)) (rows : List ℕ) (g : ℕ) (old : List ℕ) {a : Result ℕ TableRefusal} {l : List ℕ} → is_gap g ≡ true
    → a ≡ answer_for (Ok tt) (listing_of (Apart g) ls rows) old → l ≡ area_after a (listing_of (Apart g) ls rows) old
    → (listed_by a ≡ list_faults_rows ls rows g old) × (l ≡ listed_rows ls rows g old)
unfolding list_faults_rows listed_rows
rows-listed ls rows g old {a} {l} gap value left =
    rw gap (ap listed_by value, left ∙ ap (λ (x : Result ℕ TableRefusal). area_after x (listing_of (Apart g) ls rows) old) value)

pub returns-in_err-list_rows : goal.returns-in_err-list_rows
unfolding list_faults_read listed_read
returns-in_err-list_rows c =
    let p = err_from_is_err_and c.from_residual-in_err-list_rows.result c.from_residual-in_err-list_rows.ensures.1 in
    let (passed, lengths, rows) = c.in_ok-table.ensures in
    let e = c.list_rows.ensures in
    let both = rows-listed _ _ c.args.gap _ c.in_ok-faults.ensures.0 (rw c.in_ok-faults.ensures.1 at e.value) (rw c.in_ok-faults.ensures.1 at e.out_after) in
    let answer = listed-told _ _ _ _ (rw (p.1, p.2, passed, ← lengths, ← rows) (rw c.in_err-list_rows.was at both)) in
    record { value = answer.0; out_after = answer.1.0; in_numbers = answer.1.1 }

pub returns : goal.returns
unfolding list_faults_read listed_read
returns c =
    let (passed, lengths, rows) = c.in_ok-table.ensures in
    let e = c.list_rows.ensures in
    let both = rows-listed _ _ c.args.gap _ c.in_ok-faults.ensures.0 (rw c.in_ok-faults.ensures.1 at e.value) (rw c.in_ok-faults.ensures.1 at e.out_after) in
    let answer = listed-told _ _ _ _ (rw (passed, ← lengths, ← rows) (rw c.in_ok-list_rows.was at both)) in
    record { value = answer.0; out_after = answer.1.0; in_numbers = answer.1.1 }
