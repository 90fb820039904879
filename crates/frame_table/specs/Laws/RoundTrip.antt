-- Reading and writing a table undo each other.
use Prim.Native.Nat.{ℕ, zero, suc, ◌+◌, ◌-◌, ◌*◌, ◌/◌, ◌%◌, ◌^◌, ◌≤◌, ◌<◌}
use Rattle.std.specs.Prelude.{◌≡◌, Bool, true, false, not, ◌&&◌, List, ◌++◌, length, get_or, take, drop, eqb, Option, Some, None, Ok}
use Rattle.std.proofs.Math.Path.{refl, ap}
use Rattle.std.proofs.Common.{sym, ap₂, ◌∙◌, add-one, eq-eqb, eqb-true, length-take, length-drop, drop-drop, get_or-drop, take_all, take-add, ext_get_or}
use Rattle.std.proofs.Math.Bool.{and-false}
use Rattle.std.proofs.Math.Nat.{add-zero}
use native.Mathlib.Omega.{arith}
use Rattle.std.proofs.Math.Seq.{drop-cons}
use Rattle.std.proofs.Math.Dec.{ltb, ltb→lt}
use Rattle.arith.specs.Laws.Tests.{by-test}
use Rattle.arith.specs.Laws.Below.{below}
use Rattle.arith.specs.Laws.Lines.{length-lines, lines_at}
use Rattle.decimal.specs.Decimal.{read_column, write_column}
use Rattle.decimal.specs.Laws.{read-write, write_read}
use Rattle.table_checks.specs.Columns.{field, width_of, start_of, columns, feed_at, line_length}
use Rattle.table_checks.specs.Checks.{unterminated, table_check, rows_check}
use Rattle.table_checks.proofs.Laws.First.{first-passed}
use Rattle.table_checks.proofs.Laws.Limits.{Limits, greatest_in, field-most, field-small, lines-each}
use Rattle.table_checks.proofs.Laws.Sizes.{FileSize, file-size, file-sized, rows-size, sized-check}
use Rattle.frame_table.specs.Text.{field_of, column_at, terminated, field_at, fields_from, fields_of, lines_from, text_of}
use Rattle.frame_table.specs.Table.{read_check}
use Rattle.frame_table.specs.Laws.Storable.{storable}
use Rattle.frame_table.specs.Laws.Layout.{start-next, end-most, line-column, line-feed, table-lines, length_fields, fields-size, field-at, field_in}

-- ---- what stands in the text of rows

module _ (rows : List ℕ) (n i : ℕ) (h : i < n) where
  -- A column holds its number.
  text-column : (j : ℕ) → j < columns → column_at (lines_from rows n 0) i j ≡ write_column (width_of j) (field rows i j)
  unfolding column_at
  text-column j l =
      ap (take (width_of j)) (sym (drop-drop (start_of j) (line_length * i) (lines_from rows n 0)) ∙ ap (drop (start_of j)) (lines_at (table-lines rows) n i h))
      ∙ line-column rows i (lines_from rows (n - (i + 1)) (i + 1)) j l

  -- A line ends in a line feed.
  text-feed : get_or (lines_from rows n 0) (line_length * i + feed_at) 0 ≡ 10
  text-feed =
      sym (get_or-drop (line_length * i) (lines_from rows n 0) feed_at 0) ∙ ap (λ (x : List ℕ). get_or x feed_at 0) (lines_at (table-lines rows) n i h)
      ∙ line-feed rows i (lines_from rows (n - (i + 1)) (i + 1))

  -- A number within its limits is read back.
  field_back : Limits rows i → (j : ℕ) → j < columns → field_at (lines_from rows n 0) i j ≡ field rows i j
  unfolding field_at terminated field_of width_of greatest_in
  field_back m j l =
      let some = ltb→lt 0 (width_of j) (below (λ j. ltb 0 (width_of j)) columns tt j l) in
      let wide = ltb→lt (greatest_in j) (10 ^ width_of j) (below (λ j. ltb (greatest_in j) (10 ^ width_of j)) columns tt j l) in
      simp (eq-eqb _ _ text-feed, and-false)
      (ap field_of (ap read_column (text-column j l) ∙ read-write (width_of j) _ some (omega (arith, field-most rows i m j l)) (omega (arith, field-small rows i m j l))))

-- The text of rows within their limits has them as its fields.
text-fields : (rows : List ℕ) (n : ℕ) → length rows ≡ columns * n → ((i : ℕ) → i < n → Limits rows i) → fields_from (lines_from rows n 0) (columns * n) 0 ≡ rows
text-fields rows n size limits =
    let text : List ℕ = lines_from rows n 0 in
    ext_get_or 0 (fields_from text (columns * n) 0) rows (length_fields text (columns * n) 0 ∙ sym size)
    (λ k l. let below : k < columns * n = rw length_fields at l in
    let z : columns * (k / columns) + k % columns ≡ k = omega arith in
    field-at text (columns * n) k below ∙ (rw z at (field_back rows n (k / columns) (omega arith) (limits (k / columns) (omega arith)) (k % columns) (omega arith))))

-- ---- two files that hold the same

module _ (a b : List ℕ) where
  -- They are alike before place p.
  abbrev Alike : ℕ → Type 0
  Alike p = take p a ≡ take p b

  alike-more : (p w : ℕ) → Alike p → take w (drop p a) ≡ take w (drop p b) → Alike (p + w)
  alike-more p w before part = take-add p w a ∙ ap₂ (λ (x y : List ℕ). x ++ y) before part ∙ sym (take-add p w b)

  module _ (n : ℕ) (size : length a ≡ line_length * n) (size' : length b ≡ line_length * n)
      (column : (i : ℕ) → i < n → (j : ℕ) → j < columns → column_at a i j ≡ column_at b i j)
      (feed : (i : ℕ) → i < n → get_or a (line_length * i + feed_at) 0 ≡ get_or b (line_length * i + feed_at) 0) where
    columns-alike : (i : ℕ) → i < n → Alike (line_length * i) → (j : ℕ) → j ≤ columns → Alike (line_length * i + start_of j)
    columns-alike i h before zero l = unfold start_of in rw add-zero before
    columns-alike i h before (suc j) l =
        let e : line_length * i + start_of (suc j) ≡ line_length * i + start_of j + width_of j = omega (arith, start-next j l, ap start_of (add-one j)) in
        rw e (alike-more (line_length * i + start_of j) (width_of j) (columns-alike i h before j (omega arith)) (unfold column_at in column i h j l))

    lines-alike : (i : ℕ) → i ≤ n → Alike (line_length * i)
    unfolding start_of
    lines-alike zero l = refl
    lines-alike (suc i) l =
        let p : ℕ = line_length * i + feed_at in
        let e : line_length * suc i ≡ p + 1 = omega arith in
        rw e (alike-more p 1 (columns-alike i l (lines-alike i (omega arith)) columns (omega arith))
        (rw (drop-cons a p 0 (omega arith), drop-cons b p 0 (omega arith), feed i l)))

    alike : a ≡ b
    alike = sym (take_all (line_length * n) a (omega arith)) ∙ lines-alike n (omega arith) ∙ take_all (line_length * n) b (omega arith)

-- ---- what stands in a file whose fields are numbers

-- Such a field is the number of its column, and the first one of a line says that the line ends in a line feed.
field-number : (file : List ℕ) (i j : ℕ) → field_at file i j < 2 ^ 32
    → (read_column (column_at file i j) ≡ Some (field_at file i j)) × (j ≡ 0 → terminated file i ≡ true)
unfolding field_at field_of
field-number file i j h =
    by-test (eqb j 0 && not (terminated file i))
    (λ e. let z : unterminated < 2 ^ 32 = simp e at h in absurd (omega arith))
    (λ e. (simp e (value _ (simp e at h)), λ z. holds (terminated file i) (rw z at e)))
  where
    value : (c : Option ℕ) → field_of c < 2 ^ 32 → c ≡ Some (field_of c)
    value (Some n) h = refl
    value None h = absurd (omega arith)

    holds : (t : Bool) → not t ≡ false → t ≡ true
    holds true e = refl
    holds false e = sym e

-- A file whose fields are numbers of 32 bits is the text of them.
fields-text : (file : List ℕ) (n : ℕ) → length file ≡ line_length * n → ((i j : ℕ) → i < n → j < columns → field_at file i j < 2 ^ 32)
    → lines_from (fields_from file (columns * n) 0) n 0 ≡ file
unfolding column_at terminated
fields-text file n size small =
    let t : List ℕ = fields_from file (columns * n) 0 in
    alike (lines_from t n 0) file n (length-lines (table-lines t) n 0) size
    (λ i h j l. let w : length (column_at file i j) ≡ width_of j = simp (length-take, length-drop) (omega (arith, start-next j l, end-most j l)) in
    text-column t n i h j l ∙ rw (field_in file n i j h l) (rw w at (write_read (column_at file i j) _ (field-number file i j (small i j h l)).0)))
    (λ i h. text-feed t n i h ∙ sym (eqb-true _ 10 ((field-number file i 0 (small i 0 h (omega arith))).1 refl)))

-- ---- tables that passed

-- The file of a table reads back as the table.
pub read-text : (rows : List ℕ) → rows_check rows ≡ Ok tt → (read_check (text_of rows) ≡ Ok tt) × (fields_of (text_of rows) ≡ rows)
unfolding rows_check table_check read_check text_of fields_of
read-text rows e =
    let both = first-passed _ _ e in
    let s = rows-size (length rows) both.0 in
    let n : ℕ = length rows / columns in
    let size : length (lines_from rows n 0) ≡ line_length * n = length-lines (table-lines rows) n 0 in
    let lines : length (lines_from rows n 0) / line_length ≡ n = omega arith in
    let back : fields_from (lines_from rows n 0) (columns * (length (lines_from rows n 0) / line_length)) 0 ≡ rows
    = rw lines (text-fields rows n (omega (arith, s.whole)) (lines-each rows (first-passed _ _ both.1).0)) in
    let fits : FileSize (length (lines_from rows n 0)) = record { some = omega (arith, s.some, s.whole); whole = omega arith; most = omega (arith, s.most) } in
    (rw (back, file-sized _ fits) both.1, back)

-- The table of a file is written back as the file.
pub text-read : (file : List ℕ) → read_check file ≡ Ok tt → (rows_check (fields_of file) ≡ Ok tt) × (text_of (fields_of file) ≡ file)
unfolding read_check text_of fields_of
text-read file e =
    let both = first-passed _ _ e in
    let s = file-size (length file) both.0 in
    let n : ℕ = length file / line_length in
    let t : List ℕ = fields_from file (columns * n) 0 in
    let size : length t ≡ columns * n = length_fields file (columns * n) 0 in
    let lines : length t / columns ≡ n = omega arith in
    let small : (i j : ℕ) → i < n → j < columns → field_at file i j < 2 ^ 32
    = λ i j h l. rw (field_in file n i j h l) at (storable t (omega arith) both.1 (columns * i + j) (omega arith)) in
    (sized-check t (fields-size file both.0) ∙ both.1, rw lines (fields-text file n (omega (arith, s.whole)) small))
