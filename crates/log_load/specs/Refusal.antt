-- The numbers of the causes (document 02, request 11).
use Rattle.std.specs.Prelude.{ℕ}
use Rattle.log_check.specs.declared.Refusal.{Refusal as LogRefusal}
use Rattle.log_check.specs.Refusal.{number_of as log_number_of}
use Rattle.log_load.specs.declared.Cause.{Cause}
use Rattle.log_load.specs.declared.Cause.TheVariants.{Log, Width}
use Rattle.log_load.specs.declared.Refusal.{Refusal}

-- "Number"
unfoldable pub number_of : Cause → ℕ
number_of (Log cause) = log_number_of cause
number_of Width = 20

-- a refusal of lengths, table or log, as one of these
abbrev pub of_log : LogRefusal → Refusal
of_log r = record { cause = Log r.cause; place = r.place }
