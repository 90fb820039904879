-- What reading and writing a table answer, and what they leave in the output area.
use Rattle.std.specs.Prelude.{ℕ, cond, List, ◌++◌, length, drop, ltb, eqb, Result, Ok, Err}
use Rattle.table_checks.specs.declared.Refusal.{Refusal}
use Rattle.table_checks.specs.declared.Cause.TheVariants.{OutputArea}
use Rattle.table_checks.specs.Refusal.{number_of, Returned}
use Rattle.table_checks.specs.Checks.{first, file_size_check, table_check}
use Rattle.frame_table.specs.Text.{fields_of}

-- the check of a file
unfoldable pub read_check : List ℕ → Result (Unit {0}) Refusal
read_check file = first (file_size_check (length file)) (table_check (fields_of file))

-- the answer where `new` is to be written into the area `old`: 8 comes last
abbrev pub answer_for : Result (Unit {0}) Refusal → List ℕ → List ℕ → Result ℕ Refusal
answer_for (Err r) new old = Err r
answer_for (Ok _) new old =
    cond (ltb (length old) (length new)) (Err (record { cause = OutputArea; place = 0 })) (Ok (length new))

-- the area afterwards: what was written and then what stood there before; after a refusal what stood there before
abbrev pub area_after : Result ℕ Refusal → List ℕ → List ℕ → List ℕ
area_after (Ok n) new old = new ++ drop (length new) old
area_after (Err r) new old = old

-- ---- in numbers

-- number and place of a refusal, 0 and 0 where there is none, and how many elements were written
pub record Answered : Type 0 where
  pub number : ℕ
  pub place : ℕ
  pub written : ℕ

abbrev pub answered : ℕ → ℕ → ℕ → Answered
answered number place written = record { number = number; place = place; written = written }

-- what an answer returns
unfoldable pub answer_returns : Result ℕ Refusal → Answered
answer_returns (Ok n) = answered 0 0 n
answer_returns (Err r) = answered (number_of r.cause) r.place 0

-- what is returned where `new` is to be written into the area `old`: what the check returns, then 8
unfoldable pub returns_for : Returned → List ℕ → List ℕ → Answered
returns_for check new old =
    cond (eqb check.number 0)
    (cond (ltb (length old) (length new)) (answered 8 0 0) (answered 0 0 (length new)))
    (answered check.number check.place 0)
