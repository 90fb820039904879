-- What reading the lengths' file tells: its check, and its numbers.
use Rattle.std.specs.Prelude.{ℕ, ◌+◌, ◌*◌, ◌≤◌, ◌<◌, ◌≡◌, true, cond, List, [], ◌∷◌, length, get_or, Some, Ok}
use Rattle.std.proofs.Common.{ap, ap₂, ◌∙◌, zero-add, arith, eqb-true, length-take, length-drop}
use Rattle.std.proofs.lemmas.List.{length-map}
use Rattle.arith.specs.Lists.{range}
use Rattle.arith.specs.Laws.Members.{length-range, get_d-table}
use Rattle.arith.specs.Laws.Tests.{by-test, and_both, cond_map}
use Rattle.decimal.specs.Decimal.{read_column}
use Rattle.decimal.specs.Laws.{read_below}
use Rattle.table_checks.specs.declared.Cause.TheVariants.{LengthsFile}
use Rattle.table_checks.specs.Refusal.{number_of, returned, check_returns}
use Rattle.table_checks.specs.Checks.{Loadable, lengths_check}
use Rattle.table_checks.specs.Returns.{first_returned}
use Rattle.table_checks.proofs.Laws.First.{first-passed}
use Rattle.table_checks.proofs.Laws.Limits.{not-passed}
use Rattle.table_checks.proofs.Laws.Returns.{first-returned, lengths-returned}
use Rattle.lengths_file.specs.declared.Loaded.{Loaded}
use Rattle.lengths_file.specs.Lengths.{column_at, number_in, line_of, lengths_of, is_text, text_check, lengths_file_check, lengths_file_returns, loaded}

pub length-numbers : (file : List ℕ) (k : ℕ) → length (line_of file k) ≡ 9
unfolding line_of
length-numbers file k = length-map (range 0 9) _ ∙ length-range 0 9

pub number_at : (file : List ℕ) (k s : ℕ) → s < 9 → get_or (line_of file k) s 0 ≡ number_in (read_column (column_at file k s))
unfolding line_of
number_at file k s l = get_d-table (λ i. number_in (read_column (column_at file k i))) 0 9 s 0 l ∙ rw (zero-add s)

-- A column of the file has five digits at the most.
pub column-below : (file : List ℕ) (k s : ℕ) → 46 * k + 46 ≤ length file → s < 9 → {n : ℕ} → read_column (column_at file k s) ≡ Some n → n < 100000
unfolding column_at
column-below file k s room l {n} e =
    let w : length (column_at file k s) ≡ 5 = simp (length-take, length-drop) (omega arith) in
    rw w at (read_below (column_at file k s) n e)

-- A file that passed has the notation, and 92 bytes.
pub text-is : (file : List ℕ) → text_check file ≡ Ok tt → is_text file ≡ true
unfolding text_check
text-is file e = by-test (is_text file) (λ t. t) (λ f. not-passed {cause = LengthsFile} {place = 0} (simp f at e))

pub text-size : (file : List ℕ) → is_text file ≡ true → length file ≡ 92
unfolding is_text
text-size file t = eqb-true (length file) 92 (and_both _ _ t).0

-- What is found against a file is what its check finds,
pub loaded-checked : (file : List ℕ) → (loaded file).checked ≡ lengths_file_check file
unfolding loaded lengths_file_check text_check
loaded-checked file = by-test (is_text file) (λ t. rw t) (λ f. rw f)

-- and where that is nothing, its lengths stand beside it, and may be loaded.
pub loaded-lengths : (file : List ℕ) → lengths_file_check file ≡ Ok tt
    → ((loaded file).short ∷ (loaded file).long ∷ [] ≡ lengths_of file) × Loadable (lengths_of file)
unfolding loaded lengths_file_check
loaded-lengths file e =
    let both = first-passed (text_check file) (lengths_check (lengths_of file)) e in
    (rw (text-is file both.0), both.1)

-- ---- in numbers

pub file-returned : (file : List ℕ) → check_returns (lengths_file_check file) ≡ lengths_file_returns file
unfolding lengths_file_check lengths_file_returns text_check check_returns number_of
file-returned file =
    let text : check_returns (text_check file) ≡ cond (is_text file) (returned 0 0) (returned 13 0) = simp (cond_map check_returns) in
    first-returned (text_check file) (lengths_check (lengths_of file)) ∙ ap₂ first_returned text (lengths-returned (lengths_of file))

pub loaded-told : (file : List ℕ) {l : Loaded} → l ≡ loaded file → (l ≡ loaded file) × (check_returns l.checked ≡ lengths_file_returns file)
loaded-told file e = (e, ap (λ x. check_returns x.checked) e ∙ ap check_returns (loaded-checked file) ∙ file-returned file)
