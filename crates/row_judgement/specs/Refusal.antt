-- The numbers of the causes (document 01, "Where a call is turned back").
use Rattle.std.specs.Prelude.{ℕ}
use Rattle.table_checks.specs.declared.Refusal.{Refusal as TableRefusal}
use Rattle.table_checks.specs.Refusal.{number_of as table_number_of}
use Rattle.row_judgement.specs.declared.Cause.{Cause}
use Rattle.row_judgement.specs.declared.Cause.TheVariants.{Table, NoSuchRow, NoWindow, TooManyScenarios, GapOutside}
use Rattle.row_judgement.specs.declared.Refusal.{Refusal}

-- "Number"
unfoldable pub number_of : Cause → ℕ
number_of (Table cause) = table_number_of cause
number_of NoSuchRow = 9
number_of NoWindow = 11
number_of TooManyScenarios = 12
number_of GapOutside = 17

-- a refusal of the table, as one of these
abbrev pub of_table : TableRefusal → Refusal
of_table r = record { cause = Table r.cause; place = r.place }
