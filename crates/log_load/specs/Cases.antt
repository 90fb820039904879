-- A small log: its busiest stretches, what is seen of its rows, and its sheet.
use Rattle.std.specs.Prelude.{ℕ, ◌≡◌, refl, List, [], ◌∷◌, ◌++◌}
use Rattle.arith.specs.Lists.{sum, greatest, keep, exists, range}
use Rattle.arith.specs.Least.{least, or_zero}
use Rattle.decimal.specs.Decimal.{write_column}
use Rattle.bus_log.specs.declared.Line.{Line}
use Rattle.bus_log.specs.Log.{end_from, is_named}
use Rattle.log_load.specs.declared.Seen.{Seen}
use Rattle.log_load.specs.Busy.{holds, is_busy, busy_at, busy_in, most_busy, first_busiest}
use Rattle.log_load.specs.Sheet.{of_row, seen_of, first_line, row_line, line_of, sheet_of}

abbrev line : ℕ → ℕ → ℕ → ℕ → ℕ → Line
line start identifier kind release length = record { start = start; identifier = identifier; kind = kind; release = release; length = length }

-- ticks 0 to 2, 5 to 10 and 20 to 25 are busy
unfoldable log : List Line
log = line 0 7 11 0 3 ∷ line 5 7 29 2 4 ∷ line 9 7 11 4 2 ∷ line 20 7 29 20 6 ∷ []

-- identifier 7 of both kinds, and identifier 8
unfoldable rows : List ℕ
rows = 1 ∷ 1 ∷ 7 ∷ 11 ∷ 0 ∷ 100 ∷ 0 ∷ 100 ∷ 1 ∷ 1 ∷ 7 ∷ 29 ∷ 0 ∷ 100 ∷ 0 ∷ 100 ∷ 1 ∷ 1 ∷ 8 ∷ 11 ∷ 0 ∷ 100 ∷ 0 ∷ 100 ∷ []

unfoldable most : ℕ → ℕ
unfolding most_busy busy_in busy_at is_busy holds exists sum greatest range end_from log
most w = most_busy log w

unfoldable first : ℕ → ℕ
unfolding first_busiest most_busy least busy_in busy_at is_busy holds exists sum greatest range end_from log
first w = first_busiest log w

unfoldable seen : ℕ → Seen
unfolding seen_of of_row is_named keep greatest sum log rows
seen i = seen_of rows i log

-- Two lines that meet are one stretch; a later one with as many is not the first.
most-6 : most 6 ≡ 6
unfolding most
most-6 = refl

first-6 : first 6 ≡ 5
unfolding first
first-6 = refl

-- It ends with a line, and begins a tick before one.
most-7 : most 7 ≡ 6
unfolding most
most-7 = refl

first-7 : first 7 ≡ 4
unfolding first
first-7 = refl

-- The whole log.
most-26 : most 26 ≡ 15
unfolding most
most-26 = refl

-- The kinds are told apart.
short : seen 0 ≡ record { count = 2; most = 7; total = 10 }
unfolding seen
short = refl

long : seen 1 ≡ record { count = 2; most = 7; total = 13 }
unfolding seen
long = refl

-- "zeros for a frame not seen"
none : seen 2 ≡ record { count = 0; most = 0; total = 0 }
unfolding seen
none = refl

-- The sheet for stretches of 6 ticks, in characters: "          6          5", then "         7    2          7             10",
-- "         7    2          7             13" and "         8    0          0              0", each with a line feed.
sheet-6 : sheet_of rows log 6 ≡ first_line 6 5 ++ (row_line 7 (seen 0) ++ (row_line 7 (seen 1) ++ row_line 8 (seen 2)))
unfolding sheet_of line_of most_busy first_busiest least busy_in busy_at is_busy holds exists sum greatest range end_from seen log rows row_line write_column
sheet-6 = refl

first-line : first_line 6 5 ≡
    32 ∷ 32 ∷ 32 ∷ 32 ∷ 32 ∷ 32 ∷ 32 ∷ 32 ∷ 32 ∷ 32 ∷ 54
    ∷ 32 ∷ 32 ∷ 32 ∷ 32 ∷ 32 ∷ 32 ∷ 32 ∷ 32 ∷ 32 ∷ 32 ∷ 53
    ∷ 10 ∷ []
unfolding first_line write_column
first-line = refl

row-line : row_line 7 (seen 0) ≡
    32 ∷ 32 ∷ 32 ∷ 32 ∷ 32 ∷ 32 ∷ 32 ∷ 32 ∷ 32 ∷ 55
    ∷ 32 ∷ 32 ∷ 32 ∷ 32 ∷ 50
    ∷ 32 ∷ 32 ∷ 32 ∷ 32 ∷ 32 ∷ 32 ∷ 32 ∷ 32 ∷ 32 ∷ 32 ∷ 55
    ∷ 32 ∷ 32 ∷ 32 ∷ 32 ∷ 32 ∷ 32 ∷ 32 ∷ 32 ∷ 32 ∷ 32 ∷ 32 ∷ 32 ∷ 32 ∷ 49 ∷ 48
    ∷ 10 ∷ []
unfolding row_line write_column seen
row-line = refl
