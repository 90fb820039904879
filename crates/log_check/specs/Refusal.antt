-- The numbers of the causes (document 02, request 10).
use Rattle.std.specs.Prelude.{ℕ}
use Rattle.table_checks.specs.declared.Refusal.{Refusal as TableRefusal}
use Rattle.table_checks.specs.Refusal.{number_of as table_number_of}
use Rattle.log_check.specs.declared.Cause.{Cause}
use Rattle.log_check.specs.declared.Cause.TheVariants.{Table, Notation, Contradiction}
use Rattle.log_check.specs.declared.Refusal.{Refusal}

-- "Number"
unfoldable pub number_of : Cause → ℕ
number_of (Table cause) = table_number_of cause
number_of Notation = 18
number_of Contradiction = 19

-- a refusal of the lengths or the table, as one of these
abbrev pub of_table : TableRefusal → Refusal
of_table r = record { cause = Table r.cause; place = r.place }
