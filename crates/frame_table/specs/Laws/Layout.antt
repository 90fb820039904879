-- The places of columns, lines and fields, and how long each is.
use Prim.Native.Nat.{ℕ, zero, suc, ◌+◌, ◌-◌, ◌*◌, ◌/◌, ◌%◌, ◌≤◌, ◌<◌}
use Rattle.std.specs.Prelude.{◌≡◌, refl, length, take, drop, leb, eqb, Ok}
use Rattle.std.proofs.Math.Path.{sym, ap}
use Rattle.std.proofs.Common.{◌∙◌, length-append, leb→le, eqb→eq, drop-drop, take_at, get_or-drop}
use mathlib.Core.List.{List, ◌++◌, append_assoc}
use Rattle.std.proofs.Math.Nat.{add-zero}
use Rattle.std.proofs.Math.Numerals.{add-one}
use native.Mathlib.Omega.{arith}
use Rattle.std.proofs.Math.ListN.{get_or}
use Rattle.std.proofs.Math.Seq.{drop_at}
use Rattle.arith.specs.Laws.Below.{below}
use Rattle.arith.specs.Laws.Lines.{Lines, length-lines}
use Rattle.decimal.specs.Decimal.{write_column}
use Rattle.decimal.specs.Laws.{length-write}
use Rattle.table_checks.specs.Columns.{field, width_of, start_of, feed_at, line_length, columns}
use Rattle.table_checks.specs.Checks.{file_size_check}
use Rattle.table_checks.proofs.Laws.Sizes.{RowsSize, file-size}
use Rattle.frame_table.specs.Text.{field_at, fields_from, fields_of, columns_from, line_of, lines_from, text_of}

-- ---- a column

-- A column ends where the next one starts.
pub start-next : (j : ℕ) → j < columns → start_of (j + 1) ≡ start_of j + width_of j
unfolding start_of width_of
start-next j l = eqb→eq _ _ (below (λ j. eqb (start_of (j + 1)) (start_of j + width_of j)) columns tt j l)

-- None reaches the line feed.
pub end-most : (j : ℕ) → j < columns → start_of (j + 1) ≤ feed_at
unfolding start_of
end-most j l = leb→le _ _ (below (λ j. leb (start_of (j + 1)) feed_at) columns tt j l)

-- The place of a column, by where it and the next one start.
pub column-place : (j from to : ℕ) → j < columns → from ≡ start_of j → to ≡ start_of (j + 1) → (from + width_of j ≡ to) × (to ≤ feed_at)
column-place j from to l p q = (omega (arith, start-next j l), omega (arith, end-most j l))

-- ---- a line, and what stands behind it

module _ (rows : List ℕ) (i : ℕ) where
  -- A line has its length.
  pub length-line : length (line_of rows i) ≡ line_length
  unfolding line_of columns_from width_of
  length-line = simp (length-append, length-write)

  module _ (rest : List ℕ) where
    -- The columns from column j on.
    columns_on : ℕ → List ℕ
    columns_on j = columns_from rows (columns - j) (columns * i + j) j ++ rest

    columns-turn : (j : ℕ) → j < columns → columns_on j ≡ write_column (width_of j) (field rows i j) ++ columns_on (j + 1)
    unfolding columns_on columns_from
    columns-turn j l =
        let m : columns - j ≡ suc (columns - (j + 1)) = omega arith in
        let k : columns * i + (j + 1) ≡ columns * i + j + 1 = omega arith in
        rw (m, k) (append_assoc (write_column (width_of j) (field rows i j)) (columns_from rows (columns - (j + 1)) (columns * i + j + 1) (j + 1)) rest)

    columns-at : (j : ℕ) → j ≤ columns → drop (start_of j) (line_of rows i ++ rest) ≡ columns_on j
    columns-at zero l = unfold columns_on start_of line_of in rw add-zero
    columns-at (suc j) l =
        rw (← add-one j, start-next j l)
        (sym (drop-drop (width_of j) (start_of j) (line_of rows i ++ rest))
        ∙ ap (drop (width_of j)) (columns-at j (omega arith) ∙ columns-turn j l)
        ∙ drop_at (write_column (width_of j) (field rows i j)) (columns_on (j + 1)) (width_of j) (length-write (width_of j) _))

    -- A column holds its number.
    pub line-column : (j : ℕ) → j < columns → take (width_of j) (drop (start_of j) (line_of rows i ++ rest)) ≡ write_column (width_of j) (field rows i j)
    line-column j l =
        ap (take (width_of j)) (columns-at j (omega arith) ∙ columns-turn j l)
        ∙ take_at (write_column (width_of j) (field rows i j)) (columns_on (j + 1)) (width_of j) (length-write (width_of j) _)

    -- The last character is a line feed.
    pub line-feed : get_or (line_of rows i ++ rest) feed_at 0 ≡ 10
    unfolding start_of columns_on columns_from
    line-feed = sym (get_or-drop feed_at (line_of rows i ++ rest) 0 0) ∙ ap (λ (x : List ℕ). get_or x 0 0) (columns-at columns (omega arith))

-- ---- a file

-- The lines of a table, all of one length.
pub table-lines : (rows : List ℕ) → Lines line_length (line_of rows) (lines_from rows)
table-lines rows = record { wide = length-line rows; none = λ i. refl; more = λ n i. refl }

pub length-text : (rows : List ℕ) → length (text_of rows) ≡ line_length * (length rows / columns)
unfolding text_of
length-text rows = length-lines (table-lines rows) (length rows / columns) 0

-- ---- the fields of a file

-- There are as many as were asked for.
pub length_fields : (file : List ℕ) (n k : ℕ) → length (fields_from file n k) ≡ n
length_fields file zero k = refl
length_fields file (suc n) k = ap suc (length_fields file n (k + 1))

-- There are as many in a file whose size is right as a table can have.
pub fields-size : (file : List ℕ) → file_size_check (length file) ≡ Ok tt → RowsSize (length (fields_of file))
unfolding fields_of
fields-size file e =
    let s = file-size (length file) e in
    let size = length_fields file (columns * (length file / line_length)) 0 in
    record { some = omega (arith, s.some, s.whole); whole = omega arith; most = omega (arith, s.most) }

fields_at : (file : List ℕ) (n k f : ℕ) → f < n → get_or (fields_from file n k) f 0 ≡ field_at file ((k + f) / columns) ((k + f) % columns)
fields_at file zero k f l = absurd (omega arith)
fields_at file (suc n) k zero l = rw add-zero
fields_at file (suc n) k (suc f) l = let e : k + 1 + f ≡ k + suc f = omega arith in fields_at file n (k + 1) f (omega arith) ∙ rw e

-- Field k by its line and column.
pub field-at : (file : List ℕ) (n k : ℕ) → k < n → get_or (fields_from file n 0) k 0 ≡ field_at file (k / columns) (k % columns)
field-at file n k l = let e : 0 + k ≡ k = omega arith in fields_at file n 0 k l ∙ rw e

-- The same by line and column.
pub field_in : (file : List ℕ) (n i j : ℕ) → i < n → j < columns → field (fields_from file (columns * n) 0) i j ≡ field_at file i j
field_in file n i j h l =
    let x : (columns * i + j) / columns ≡ i = omega arith in
    let y : (columns * i + j) % columns ≡ j = omega arith in
    field-at file (columns * n) (columns * i + j) (omega arith) ∙ rw (x, y)
