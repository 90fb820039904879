-- The columns of a table (document 01, "The table"; document 02, request 6). Their number, places, widths and limits stand here alone;
-- the code's are the constants in src/lib.rt.
-- A table is a list of numbers, so many a row: node, group, identifier, kind, payload bytes, period, offset, claim.
use Rattle.std.specs.Prelude.{ℕ, ◌+◌, ◌*◌, Bool, true, false, ◌&&◌, ◌||◌, List, [], ◌∷◌, get_or, take, leb, eqb}
use Rattle.arith.specs.Lists.{sum}

-- ---- in memory

-- the numbers of a row
abbrev pub columns : ℕ
columns = 8

-- the columns, from 0
abbrev pub node_column : ℕ
node_column = 0

abbrev pub group_column : ℕ
group_column = 1

abbrev pub identifier_column : ℕ
identifier_column = 2

abbrev pub kind_column : ℕ
kind_column = 3

abbrev pub payload_column : ℕ
payload_column = 4

abbrev pub period_column : ℕ
period_column = 5

abbrev pub offset_column : ℕ
offset_column = 6

abbrev pub claim_column : ℕ
claim_column = 7

-- the most lines of a table, and its numbers then
abbrev pub most_lines : ℕ
most_lines = 64

abbrev pub most_numbers : ℕ
most_numbers = columns * most_lines

-- the number in column j of row i
abbrev pub field : List ℕ → ℕ → ℕ → ℕ
field t i j = get_or t (columns * i + j) 0

-- ---- in a file

-- the characters of a line before its line feed, and with it
abbrev pub feed_at : ℕ
feed_at = 45

abbrev pub line_length : ℕ
line_length = feed_at + 1

-- those of the longest file
abbrev pub most_bytes : ℕ
most_bytes = line_length * most_lines

-- "Width": the characters of each column in a file
abbrev pub widths : List ℕ
widths = 3 ∷ 3 ∷ 10 ∷ 3 ∷ 2 ∷ 8 ∷ 8 ∷ 8 ∷ []

unfoldable pub width_of : ℕ → ℕ
width_of j = get_or widths j 0

-- where column j starts in a line, and after the last the line feed
unfoldable pub start_of : ℕ → ℕ
unfolding sum
start_of j = sum (λ w. w) (take j widths)

-- ---- "Values"

-- whether v is within low..high
unfoldable pub between : ℕ → ℕ → ℕ → Bool
between low high v = leb low v && leb v high

-- whether v is within the limits of a length, where `before` stands before it on its line
unfoldable pub is_length : ℕ → ℕ → Bool
is_length before v = between 47 400 v && leb before v

-- whether the kind is one, and the identifier within the limits of its kind
unfoldable pub is_identifier : ℕ → ℕ → Bool
is_identifier kind identifier = (eqb kind 11 && leb identifier 2047) || (eqb kind 29 && leb identifier 536_870_911)

-- for each column whether v is within its limits, where `before` stands in the column before it:
-- an identifier's limit is judged at its kind
abbrev pub limits : ℕ → ℕ → List Bool
limits before v =
    between 1 16 v
    ∷ between 1 16 v
    ∷ true
    ∷ is_identifier v before
    ∷ leb v 8
    ∷ between 1 1_000_000 v
    ∷ leb v 1_000_000
    ∷ between 1 1_000_000 v
    ∷ []

abbrev pub within : ℕ → ℕ → ℕ → Bool
within j before v = get_or (limits before v) j false
