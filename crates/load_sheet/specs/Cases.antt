-- Sheets, worked out by hand.
use Rattle.std.specs.Prelude.{ℕ, ◌+◌, ◌≡◌, refl, List, [], ◌∷◌, ◌++◌, map}
use Rattle.arith.specs.Lists.{sum, greatest, keep, exists, range}
use Rattle.arith.specs.Multiples.{euclid, gcd, lcm, lcm_of}
use Rattle.decimal.specs.Decimal.{write_column}
use Rattle.bus_model.specs.Pattern.{of_group, hyperperiod}
use Rattle.table_checks.specs.Frames.{standard_lengths, priority_of, largest_length, frame_at, frames_of}
use Rattle.load_sheet.specs.declared.Load.{Load}
use Rattle.load_sheet.specs.Load.{work_in, dividend, load_of}
use Rattle.load_sheet.specs.Sheet.{is_of, has_frames, nodes_of, rows_of, node_frames, group_of, node_load, node_line, lines_of, last_line, greatest_quotient, sheet_with, sheet_of}

-- what computing a sheet unfolds
unfoldable everything : ℕ
unfolding sum greatest keep exists range euclid gcd lcm lcm_of write_column of_group hyperperiod priority_of largest_length frame_at frames_of work_in dividend load_of is_of has_frames nodes_of rows_of node_frames group_of node_load node_line lines_of last_line greatest_quotient sheet_with sheet_of
everything = 0

load : ℕ → ℕ → ℕ → Load
load quotient remainder divisor = record { quotient = quotient; remainder = remainder; divisor = divisor }

-- Document 01's table: node 1 sends 135 + 55 + 135 ticks in 1000, node 2 sends 65.
picker : List ℕ
picker =
    1 ∷ 1 ∷ 16 ∷ 11 ∷ 8 ∷ 1000 ∷ 0 ∷ 300
    ∷ 1 ∷ 1 ∷ 32 ∷ 11 ∷ 0 ∷ 1000 ∷ 200 ∷ 189
    ∷ 1 ∷ 1 ∷ 48 ∷ 11 ∷ 8 ∷ 1000 ∷ 300 ∷ 198
    ∷ 2 ∷ 2 ∷ 64 ∷ 11 ∷ 1 ∷ 1000 ∷ 0 ∷ 200
    ∷ []

picker-sheet : sheet_of standard_lengths picker ≡ node_line 1 (load 3250 0 1000) ++ (node_line 2 (load 650 0 1000) ++ last_line 2 3250)
unfolding picker load everything
picker-sheet = refl

-- By lengths that are ten ticks longer: 145 + 65 + 145, and 75.
longer : List (List ℕ)
longer = map (map (λ l. l + 10)) standard_lengths

longer-sheet : sheet_of longer picker ≡ node_line 1 (load 3550 0 1000) ++ (node_line 2 (load 750 0 1000) ++ last_line 2 3550)
unfolding picker longer load everything
longer-sheet = refl

-- The first sheet's first line is "  1      3250       0    1000" and a line feed.
first-line : node_line 1 (load 3250 0 1000) ≡
    32 ∷ 32 ∷ 49
    ∷ 32 ∷ 32 ∷ 32 ∷ 32 ∷ 32 ∷ 32 ∷ 51 ∷ 50 ∷ 53 ∷ 48
    ∷ 32 ∷ 32 ∷ 32 ∷ 32 ∷ 32 ∷ 32 ∷ 32 ∷ 48
    ∷ 32 ∷ 32 ∷ 32 ∷ 32 ∷ 49 ∷ 48 ∷ 48 ∷ 48
    ∷ 10 ∷ []
unfolding load node_line write_column
first-line = refl

-- Node 1: 160 ticks in 1000000, and 1600000 = 1 × 1000000 + 600000.
-- Node 5: 80 ticks in 7, and 800000 = 114285 × 7 + 5.
-- Node 16: periods 3 and 7, lengths 55 and 65, so 7 × 55 + 3 × 65 = 580 in 21 ticks, and 5800000 = 276190 × 21 + 10.
remainders : List ℕ
remainders =
    16 ∷ 16 ∷ 1 ∷ 11 ∷ 0 ∷ 3 ∷ 0 ∷ 100
    ∷ 5 ∷ 5 ∷ 2 ∷ 29 ∷ 0 ∷ 7 ∷ 0 ∷ 100
    ∷ 16 ∷ 16 ∷ 3 ∷ 11 ∷ 1 ∷ 7 ∷ 0 ∷ 100
    ∷ 1 ∷ 1 ∷ 4 ∷ 29 ∷ 8 ∷ 1000000 ∷ 0 ∷ 100
    ∷ []

remainders-sheet : sheet_of standard_lengths remainders
    ≡ node_line 1 (load 1 600000 1000000) ++ (node_line 5 (load 114285 5 7) ++ (node_line 16 (load 276190 10 21) ++ last_line 3 276190))
unfolding remainders load everything
remainders-sheet = refl

-- Nodes 1 and 2 in one group, of periods 300 and 200: both loads are of 600 ticks. Node 1 sends 2 × 55 = 110, and 1100000 = 1833 × 600 + 200;
-- node 2 sends 3 × 55 = 165, and 1650000 = 2750 × 600.
together : List ℕ
together =
    1 ∷ 7 ∷ 16 ∷ 11 ∷ 0 ∷ 300 ∷ 0 ∷ 300
    ∷ 2 ∷ 7 ∷ 32 ∷ 11 ∷ 0 ∷ 200 ∷ 0 ∷ 300
    ∷ []

together-sheet : sheet_of standard_lengths together ≡ node_line 1 (load 1833 200 600) ++ (node_line 2 (load 2750 0 600) ++ last_line 2 2750)
unfolding together load everything
together-sheet = refl
