-- A row as a frame (document 01, "Rank" and "Largest length"), by the lengths that were loaded (document 02, request 2):
-- kind 11, then kind 29; by payload bytes.
use Rattle.std.specs.Prelude.{ℕ, ◌+◌, ◌-◌, ◌*◌, ◌/◌, ◌^◌, cond, List, [], ◌∷◌, map, length, get_or, ltb, eqb}
use Rattle.arith.specs.Lists.{range}
use Rattle.bus_model.specs.declared.Frame.{Frame}
use Rattle.table_checks.specs.Columns.{field, columns, group_column, identifier_column, kind_column, payload_column, period_column, offset_column}

-- "Rank" (document 02, 5): the top 11 of a long identifier's 29 bits are compared with a short identifier, and the smaller goes first;
-- on a tie the short frame does; among frames of one kind the smaller identifier. As one number, the smaller first: a short frame
-- stands just before the first long one that has its identifier as the top 11 bits (Laws/Rank).
unfoldable pub priority_of : ℕ → ℕ → ℕ
priority_of kind identifier = cond (eqb kind 11) (2 ^ 19 * identifier) (2 * identifier + 1)

-- "Largest length": document 01's lengths
abbrev pub standard_lengths : List (List ℕ)
standard_lengths =
    (55 ∷ 65 ∷ 75 ∷ 85 ∷ 95 ∷ 105 ∷ 115 ∷ 125 ∷ 135 ∷ [])
    ∷ (80 ∷ 90 ∷ 100 ∷ 110 ∷ 120 ∷ 130 ∷ 140 ∷ 150 ∷ 160 ∷ [])
    ∷ []

-- the length at a kind's place and a payload
abbrev pub length_at : List (List ℕ) → ℕ → ℕ → ℕ
length_at ls k s = get_or (get_or ls k []) s 0

-- a kind's place among the lengths
abbrev pub kind_place : ℕ → ℕ
kind_place kind = cond (eqb kind 11) 0 1

-- no frame has more than 8 payload bytes
unfoldable pub largest_length : List (List ℕ) → ℕ → ℕ → ℕ
largest_length ls kind payload = cond (ltb 8 payload) 0 (length_at ls (kind_place kind) payload)

-- the rule of document 01's lengths: s payload bytes, g the other bits that may be stuffed
unfoldable pub length_rule : ℕ → ℕ → ℕ
length_rule g s = g + 8 * s + 13 + (g + 8 * s - 1) / 4

-- g of each kind
abbrev pub stuffable : List ℕ
stuffable = 34 ∷ 54 ∷ []

-- the frame in row i
unfoldable pub frame_at : List (List ℕ) → List ℕ → ℕ → Frame
frame_at ls t i =
    record {
      group = field t i group_column;
      priority = priority_of (field t i kind_column) (field t i identifier_column);
      length = largest_length ls (field t i kind_column) (field t i payload_column);
      period = field t i period_column;
      offset = field t i offset_column;
    }

-- the frames of a table
unfoldable pub frames_of : List (List ℕ) → List ℕ → List Frame
frames_of ls t = map (frame_at ls t) (range 0 (length t / columns))

-- the same with no lengths: the checks on a table ask for none
abbrev pub unmeasured : List ℕ → List Frame
unmeasured t = frames_of [] t
