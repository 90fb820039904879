-- The numbers of the causes (document 01, "Where a call is turned back"; document 02, requests 2 and 6).
use Rattle.std.specs.Prelude.{ℕ, Result, Ok, Err}
use Rattle.table_checks.specs.declared.Refusal.{Refusal}
use Rattle.table_checks.specs.declared.Cause.{Cause}
use Rattle.table_checks.specs.declared.Cause.TheVariants.{FileForm, TooManyLines, Notation, Limit, Duplicate, Hyperperiod, Releases, OutputArea, RowsLength, LengthsFile, Length, SecondGroup}

-- "Number"
unfoldable pub number_of : Cause → ℕ
number_of FileForm = 1
number_of TooManyLines = 2
number_of Notation = 3
number_of Limit = 4
number_of Duplicate = 5
number_of Hyperperiod = 6
number_of Releases = 7
number_of OutputArea = 8
number_of RowsLength = 10
number_of LengthsFile = 13
number_of Length = 14
number_of SecondGroup = 15

-- a check that failed
abbrev pub failed : Cause → ℕ → Result (Unit {0}) Refusal
failed cause place = Err (record { cause = cause; place = place })

-- "Returned": number and place
pub record Returned : Type 0 where
  pub number : ℕ
  pub place : ℕ

abbrev pub returned : ℕ → ℕ → Returned
returned number place = record { number = number; place = place }

-- what a check returns, 0 and 0 where it passed
unfoldable pub check_returns : Result (Unit {0}) Refusal → Returned
check_returns (Ok _) = returned 0 0
check_returns (Err r) = returned (number_of r.cause) r.place
