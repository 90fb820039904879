-- Worked examples: the notation, the numbers and places of 13 and 14, and their order.
use Rattle.std.specs.Prelude.{ℕ, ◌+◌, ◌*◌, ◌≡◌, refl, take, set, replicate, Result}
use mathlib.Core.List.{List, [], ◌∷◌, ◌++◌, flat_map}
use Rattle.table_checks.specs.declared.Refusal.{Refusal}
use Rattle.arith.specs.Lists.{exists, range}
use Rattle.decimal.specs.Decimal.{read_column, write_column}
use Rattle.table_checks.specs.Columns.{between, is_length, line_length}
use Rattle.table_checks.specs.Frames.{standard_lengths}
use Rattle.table_checks.specs.Refusal.{number_of, returned, check_returns}
use Rattle.table_checks.specs.Checks.{is_outside, breaks_limits, lengths_check, file_size_check, rows_size_check, rows_check, loaded_check}
use Rattle.frame_table.specs.Table.{read_check}
use Rattle.lengths_file.specs.Lengths.{column_at, number_in, line_of, lengths_of, is_unreadable, is_broken, is_line, is_text, text_check, lengths_file_check, column_text, line_text, text_of}
use Rattle.lengths_file.specs.Input.{input_check, size_check}

-- a check that answers number and place
abbrev Answers : Result (Unit {0}) Refusal → ℕ → ℕ → Type 0
Answers check number place = check_returns check ≡ returned number place

-- ---- lengths

-- nine that are equal, with the one at a place in their stead
abbrev line : ℕ → ℕ → ℕ → List ℕ
line all place v = set (replicate 9 all) place v

abbrev pair : List ℕ → List ℕ → List (List ℕ)
pair short long = short ∷ long ∷ []

record Limits : Type 0 where
  least-and-most : Answers (lengths_check (pair (line 47 8 47) (line 400 0 400))) 0 0
  too_small : Answers (lengths_check (pair (line 47 0 46) (line 400 0 400))) 14 1
  too-great : Answers (lengths_check (pair (line 47 0 47) (line 400 8 401))) 14 2
  falls : Answers (lengths_check (pair (line 60 0 60) (line 60 8 59))) 14 2
  rises : Answers (lengths_check (pair (line 60 0 59) (line 60 8 61))) 0 0
  first-line : Answers (lengths_check (pair (line 60 4 59) (line 60 4 59))) 14 1
  before-rows : Answers (loaded_check (pair (line 47 0 46) (line 47 0 47)) []) 14 1
  then-rows : Answers (loaded_check standard_lengths []) 10 0

limits : Limits
unfolding check_returns number_of lengths_check breaks_limits is_outside is_length between exists range loaded_check rows_check rows_size_check
limits = record {
  least-and-most = refl;
  too_small = refl;
  too-great = refl;
  falls = refl;
  rises = refl;
  first-line = refl;
  before-rows = refl;
  then-rows = refl;
}

-- ---- files

-- kind 11's of document 01: "   55   65   75   85   95  105  115  125  135"
standard-line : line_text standard_lengths 0 ≡
    32 ∷ 32 ∷ 32 ∷ 53 ∷ 53
    ∷ 32 ∷ 32 ∷ 32 ∷ 54 ∷ 53
    ∷ 32 ∷ 32 ∷ 32 ∷ 55 ∷ 53
    ∷ 32 ∷ 32 ∷ 32 ∷ 56 ∷ 53
    ∷ 32 ∷ 32 ∷ 32 ∷ 57 ∷ 53
    ∷ 32 ∷ 32 ∷ 49 ∷ 48 ∷ 53
    ∷ 32 ∷ 32 ∷ 49 ∷ 49 ∷ 53
    ∷ 32 ∷ 32 ∷ 49 ∷ 50 ∷ 53
    ∷ 32 ∷ 32 ∷ 49 ∷ 51 ∷ 53
    ∷ 10 ∷ []
unfolding flat_map range write_column column_text line_text
standard-line = refl

-- a file of lengths whose first is too small
abbrev small : List ℕ
small = text_of (pair (line 47 0 46) (line 47 0 47))

record Files : Type 0 where
  standard : Answers (lengths_file_check (text_of standard_lengths)) 0 0
  back : lengths_of (text_of standard_lengths) ≡ standard_lengths
  short-first : take 46 (text_of standard_lengths) ≡ line_text standard_lengths 0
  a-byte-less : Answers (lengths_file_check (take 91 (text_of standard_lengths))) 13 0
  a-byte-more : Answers (lengths_file_check (text_of standard_lengths ++ (10 ∷ []))) 13 0
  no-line-feed : Answers (lengths_file_check (set (text_of standard_lengths) 45 32)) 13 0
  leading-zero : Answers (lengths_file_check (set (text_of standard_lengths) 2 48)) 13 0
  too_small : Answers (lengths_file_check small) 14 1
  notation-first : Answers (lengths_file_check (set small 91 32)) 13 0
  nothing : Answers (input_check [] []) 13 0
  before-table : Answers (input_check small []) 14 1
  then-table : Answers (input_check (text_of standard_lengths) []) 1 0
  before-size : Answers (size_check small (92 + 65 * line_length + 1)) 14 1
  too_long : Answers (size_check (text_of standard_lengths) (92 + 65 * line_length)) 2 0
  no-whole-lines : Answers (size_check (text_of standard_lengths) (92 + 65 * line_length + 1)) 1 0

files : Files
unfolding check_returns number_of lengths_check breaks_limits is_outside is_length between exists file_size_check read_check flat_map range read_column write_column column_at number_in line_of is_unreadable is_broken is_line is_text text_check lengths_file_check column_text line_text text_of input_check size_check
files = record {
  standard = refl;
  back = refl;
  short-first = refl;
  a-byte-less = refl;
  a-byte-more = refl;
  no-line-feed = refl;
  leading-zero = refl;
  too_small = refl;
  notation-first = refl;
  nothing = refl;
  before-table = refl;
  then-table = refl;
  before-size = refl;
  too_long = refl;
  no-whole-lines = refl;
}
