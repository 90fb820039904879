-- Numbers and places: those of each cause, that they settle what a check found, and those of the checks.
use Rattle.std.specs.Prelude.{ℕ, ◌-◌, ◌≤◌, ◌≡◌, refl, cond, List, [], ◌∷◌, ◌++◌, map, eqb, length, get_or, take, Result, Ok, Err}
use Rattle.std.proofs.Common.{sym, ap, ap₂, ◌∙◌, arith, ne_eqb}
use Rattle.table_checks.specs.declared.Refusal.{Refusal}
use Rattle.arith.specs.Laws.Tests.{cond_map}
use Rattle.table_checks.specs.declared.Cause.{Cause}
use Rattle.table_checks.specs.declared.Cause.TheVariants.{FileForm, TooManyLines, Notation, Limit, Duplicate, Hyperperiod, Releases, OutputArea, RowsLength, LengthsFile, Length, SecondGroup}
use Rattle.table_checks.specs.Frames.{unmeasured}
use Rattle.table_checks.specs.Refusal.{number_of, failed, Returned, returned, check_returns}
use Rattle.table_checks.specs.Checks.{first, lengths_check, file_size_check, rows_size_check, lines_check, groups_check, table_check, rows_check, loaded_check}
use Rattle.table_checks.specs.Returns.{first_returned, lengths_returns, file_size_returns, rows_size_returns, rows_returns, loaded_returns}

-- ---- the causes

-- all of them, by their numbers
abbrev pub causes : List Cause
causes = FileForm ∷ TooManyLines ∷ Notation ∷ Limit ∷ Duplicate ∷ Hyperperiod ∷ Releases ∷ OutputArea ∷ RowsLength ∷ LengthsFile ∷ Length ∷ SecondGroup ∷ []

-- Each is returned with its number and its place.
pub causes-returned : (place : ℕ) → map (λ cause. check_returns (failed cause place)) causes ≡ map (λ number. returned number place) (1 ∷ 2 ∷ 3 ∷ 4 ∷ 5 ∷ 6 ∷ 7 ∷ 8 ∷ 10 ∷ 13 ∷ 14 ∷ 15 ∷ [])
unfolding number_of check_returns
causes-returned place = refl

-- The numbers are 1 to 15.
pub number-range : (cause : Cause) → (1 ≤ number_of cause) × (number_of cause ≤ 15)
unfolding number_of
number-range FileForm = omega arith
number-range TooManyLines = omega arith
number-range Notation = omega arith
number-range Limit = omega arith
number-range Duplicate = omega arith
number-range Hyperperiod = omega arith
number-range Releases = omega arith
number-range OutputArea = omega arith
number-range RowsLength = omega arith
number-range LengthsFile = omega arith
number-range Length = omega arith
number-range SecondGroup = omega arith

pub number-some : (cause : Cause) → number_of cause ≡ 0 → ⊥
number-some cause e = let r = number-range cause in omega arith

-- the cause with a number, the last one where none has it
unfoldable pub cause_of : ℕ → Cause
cause_of number = get_or (take 8 causes ++ (SecondGroup ∷ RowsLength ∷ SecondGroup ∷ SecondGroup ∷ LengthsFile ∷ Length ∷ [])) (number - 1) SecondGroup

pub cause-back : (cause : Cause) → cause_of (number_of cause) ≡ cause
unfolding cause_of number_of
cause-back FileForm = refl
cause-back TooManyLines = refl
cause-back Notation = refl
cause-back Limit = refl
cause-back Duplicate = refl
cause-back Hyperperiod = refl
cause-back Releases = refl
cause-back OutputArea = refl
cause-back RowsLength = refl
cause-back LengthsFile = refl
cause-back Length = refl
cause-back SecondGroup = refl

-- No two causes have one number.
pub number-settles : (a b : Cause) → number_of a ≡ number_of b → a ≡ b
number-settles a b e = sym (cause-back a) ∙ ap cause_of e ∙ cause-back b

-- ---- a check

-- the check that returns number and place
check_of : Returned → Result (Unit {0}) Refusal
check_of r = cond (eqb r.number 0) (Ok tt) (failed (cause_of r.number) r.place)

check-back : (c : Result (Unit {0}) Refusal) → check_of (check_returns c) ≡ c
unfolding check_of check_returns
check-back (Ok _) = refl
check-back (Err r) = rw (ne_eqb _ _ (number-some r.cause), cause-back r.cause)

-- Checks that return the same found the same.
pub check-settles : (a b : Result (Unit {0}) Refusal) → check_returns a ≡ check_returns b → a ≡ b
check-settles a b e = sym (check-back a) ∙ ap check_of e ∙ check-back b

pub first-returned : (a b : Result (Unit {0}) Refusal) → check_returns (first a b) ≡ first_returned (check_returns a) (check_returns b)
unfolding check_returns
first-returned (Ok _) b = refl
first-returned (Err r) b = rw (ne_eqb _ _ (number-some r.cause))

-- ---- the checks

pub lengths-returned : (ls : List (List ℕ)) → check_returns (lengths_check ls) ≡ lengths_returns ls
unfolding number_of check_returns lengths_check lengths_returns
lengths-returned ls = simp (cond_map check_returns)

pub file-size-returned : (size : ℕ) → check_returns (file_size_check size) ≡ file_size_returns size
unfolding number_of check_returns file_size_check file_size_returns
file-size-returned size = simp (cond_map check_returns)

rows-size-returned : (size : ℕ) → check_returns (rows_size_check size) ≡ rows_size_returns size
unfolding number_of check_returns rows_size_check rows_size_returns
rows-size-returned size = simp (cond_map check_returns)

rows-returned : (rows : List ℕ) → check_returns (rows_check rows) ≡ rows_returns rows
unfolding rows_check table_check rows_returns
rows-returned rows =
    first-returned (rows_size_check (length rows)) (table_check rows)
    ∙ ap₂ first_returned (rows-size-returned (length rows)) (first-returned (lines_check rows) (groups_check (unmeasured rows)))

pub loaded-returned : (ls : List (List ℕ)) (rows : List ℕ) → check_returns (loaded_check ls rows) ≡ loaded_returns ls rows
unfolding loaded_check loaded_returns
loaded-returned ls rows = first-returned (lengths_check ls) (rows_check rows) ∙ ap₂ first_returned (lengths-returned ls) (rows-returned rows)

-- ---- what the code answers

pub lengths-told : (ls : List (List ℕ)) {c : Result (Unit {0}) Refusal} → c ≡ lengths_check ls → (c ≡ lengths_check ls) × (check_returns c ≡ lengths_returns ls)
lengths-told ls e = (e, ap check_returns e ∙ lengths-returned ls)

pub size-told : (size : ℕ) {c : Result (Unit {0}) Refusal} → c ≡ file_size_check size → (c ≡ file_size_check size) × (check_returns c ≡ file_size_returns size)
size-told size e = (e, ap check_returns e ∙ file-size-returned size)

pub rows_told : (rows : List ℕ) {c : Result (Unit {0}) Refusal} → c ≡ rows_check rows → (c ≡ rows_check rows) × (check_returns c ≡ rows_returns rows)
rows_told rows e = (e, ap check_returns e ∙ rows-returned rows)

pub loaded-told : (ls : List (List ℕ)) (rows : List ℕ) {c : Result (Unit {0}) Refusal} → c ≡ loaded_check ls rows → (c ≡ loaded_check ls rows) × (check_returns c ≡ loaded_returns ls rows)
loaded-told ls rows e = (e, ap check_returns e ∙ loaded-returned ls rows)
