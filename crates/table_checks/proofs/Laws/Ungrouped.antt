-- Tables without groups, as document 01 has them: seven numbers a row, and each node starts by itself. Widened by a group equal to its
-- node, such a table is checked as it was, and has the same frames; so what is told of frames is told as before. Every table with group
-- equal to node is a widened one.
use Prim.Native.Nat.{ℕ, zero, suc, ◌+◌, ◌-◌, ◌*◌, ◌/◌, ◌%◌, ◌<◌}
use Rattle.std.specs.Prelude.{◌≡◌, refl, Bool, true, false, cond, not, ◌&&◌, ◌||◌, get_or, Result, Ok}
use Rattle.std.proofs.Math.Path.{sym, ap, ap₂, fun_ext}
use Rattle.std.proofs.Common.{◌∙◌, ext_get_or}
use mathlib.Core.List.{List, [], ◌∷◌, map}
use native.Mathlib.Omega.{arith}
use Rattle.std.proofs.Math.Decide.{ℕ_discrete, dec_lt}
use borrow.Author.Tests.{eq-eqb, ne_eqb, lt-ltb, le-ltb}
use Rattle.std.proofs.Math.Dec.{ltb, eqb}
use Rattle.std.proofs.Math.ListN.{length, length-map}
use Rattle.table_checks.specs.declared.Refusal.{Refusal}
use Rattle.arith.specs.Lists.{exists, range}
use Rattle.arith.specs.Laws.Members.{length-range, get_d-table, get_d_beyond}
use Rattle.bus_model.specs.declared.Frame.{Frame}
use Rattle.table_checks.specs.declared.Cause.TheVariants.{FileForm, Notation, Limit, Duplicate, RowsLength}
use Rattle.table_checks.specs.Columns.{field, within, columns, node_column, group_column, identifier_column, kind_column, payload_column, period_column, offset_column, most_lines}
use Rattle.table_checks.specs.Frames.{priority_of, largest_length, frame_at, frames_of}
use Rattle.table_checks.specs.Refusal.{failed}
use Rattle.table_checks.specs.Checks.{first, first_of, malformed, unterminated, rows_size_check, column_check, columns_check, is_same_frame, stands_earlier, is_other_group, has_second_group, line_check, lines_check, groups_check, table_check, rows_check}
use Rattle.table_checks.proofs.Laws.First.{first-twice, first-same}

-- ---- a table without groups

-- the numbers of a row: node, identifier, kind, payload bytes, period, offset, claim
abbrev pub plain_columns : ℕ
plain_columns = 7

abbrev pub plain_field : List ℕ → ℕ → ℕ → ℕ
plain_field t i j = get_or t (plain_columns * i + j) 0

-- the place of column j among today's
abbrev pub column_now : ℕ → ℕ
column_now zero = node_column
column_now (suc j) = suc (suc j)

-- the frame in row i: its node starts by itself
unfoldable pub plain_frame_at : List (List ℕ) → List ℕ → ℕ → Frame
plain_frame_at ls t i =
    record {
      group = plain_field t i 0;
      priority = priority_of (plain_field t i 2) (plain_field t i 1);
      length = largest_length ls (plain_field t i 2) (plain_field t i 3);
      period = plain_field t i 4;
      offset = plain_field t i 5;
    }

unfoldable pub plain_frames : List (List ℕ) → List ℕ → List Frame
plain_frames ls t = map (plain_frame_at ls t) (range 0 (length t / plain_columns))

-- its checks: 10
unfoldable pub plain_size_check : ℕ → Result (Unit {0}) Refusal
plain_size_check size =
    cond (eqb size 0 || (not (eqb (size % plain_columns) 0) || ltb (plain_columns * most_lines) size)) (failed RowsLength 0) (Ok tt)

-- 1, 3, 4: each column has the limits that it has today
unfoldable pub plain_column_check : List ℕ → ℕ → ℕ → Result (Unit {0}) Refusal
plain_column_check t i j =
    cond (eqb (plain_field t i j) unterminated) (failed FileForm (i + 1))
    (cond (eqb (plain_field t i j) malformed) (failed Notation (i + 1))
    (cond (within (column_now j) (plain_field t i (j - 1)) (plain_field t i j)) (Ok tt) (failed Limit (i + 1))))

-- 5
unfoldable pub plain_same_frame : List ℕ → ℕ → ℕ → Bool
plain_same_frame t i m = eqb (plain_field t m 1) (plain_field t i 1) && eqb (plain_field t m 2) (plain_field t i 2)

unfoldable pub plain_line_check : List ℕ → ℕ → Result (Unit {0}) Refusal
plain_line_check t i =
    first (first_of (plain_column_check t i) plain_columns 0)
    (cond (exists (plain_same_frame t i) (range 0 i)) (failed Duplicate (i + 1)) (Ok tt))

-- and 6 and 7
unfoldable pub plain_check : List ℕ → Result (Unit {0}) Refusal
plain_check t =
    first (plain_size_check (length t))
    (first (first_of (plain_line_check t) (length t / plain_columns) 0) (groups_check (plain_frames [] t)))

-- ---- the same with a group equal to its node

-- what stands at place k: the node in the first two columns, and each other number a column later
abbrev widened_at : List ℕ → ℕ → ℕ
widened_at t k = plain_field t (k / columns) (k % columns - 1)

unfoldable pub widened : List ℕ → List ℕ
widened t = map (widened_at t) (range 0 (columns * (length t / plain_columns)))

-- ---- it is checked and read as before

never : {A : Type 0} (p : A → Bool) → ((x : A) → p x ≡ false) → (xs : List A) → exists p xs ≡ false
unfolding exists
never p fails [] = refl
never p fails (x ∷ xs) = rw (fails x) (never p fails xs)

and-not : (b : Bool) → (b && not b) ≡ false
and-not true = refl
and-not false = refl

-- The limits of a column are those of its place today; at the group's stand those of the node.
within-now : (j before v : ℕ) → within (suc j) before v ≡ within (column_now j) before v
within-now zero before v = refl
within-now (suc j) before v = refl

-- the check of a number, by whether it is within its limits
abbrev check_of : ℕ → Bool → ℕ → Result (Unit {0}) Refusal
check_of i ok v =
    cond (eqb v unterminated) (failed FileForm (i + 1)) (cond (eqb v malformed) (failed Notation (i + 1)) (cond ok (Ok tt) (failed Limit (i + 1))))

module _ (t : List ℕ) (whole : length t % plain_columns ≡ 0) where
  pub length-widened : length (widened t) ≡ columns * (length t / plain_columns)
  unfolding widened
  length-widened = length-map (range 0 (columns * (length t / plain_columns))) (widened_at t) ∙ length-range 0 _

  -- Each number stands where it did, one column later.
  pub widened-field : (i j : ℕ) → j < columns → field (widened t) i j ≡ plain_field t i (j - 1)
  unfolding widened
  widened-field i j l =
      let size = length-widened in
      elim (dec_lt i (length t / plain_columns)) [
        | yes h ↦ let x : (0 + (columns * i + j)) / columns ≡ i = omega arith in
            let y : (0 + (columns * i + j)) % columns ≡ j = omega arith in
            get_d-table (widened_at t) 0 (columns * (length t / plain_columns)) (columns * i + j) 0 (omega arith) ∙ rw (x, y)
        | no h ↦ get_d_beyond (widened t) (columns * i + j) 0 (omega arith) ∙ sym (get_d_beyond t (plain_columns * i + (j - 1)) 0 (omega arith))
      ]

  frame-widened : (ls : List (List ℕ)) (i : ℕ) → frame_at ls (widened t) i ≡ plain_frame_at ls t i
  unfolding frame_at plain_frame_at
  frame-widened ls i =
      rw (
        widened-field i group_column (omega arith),
        widened-field i identifier_column (omega arith),
        widened-field i kind_column (omega arith),
        widened-field i payload_column (omega arith),
        widened-field i period_column (omega arith),
        widened-field i offset_column (omega arith),
      )

  -- It has as many rows.
  pub rows-widened : length (widened t) / columns ≡ length t / plain_columns
  rows-widened = omega (arith, length-widened)

  -- The frames are the same.
  pub widened-frames : (ls : List (List ℕ)) → frames_of ls (widened t) ≡ plain_frames ls t
  unfolding frames_of plain_frames
  widened-frames ls = rw rows-widened (ap (λ (f : ℕ → Frame). map f (range 0 (length t / plain_columns))) (fun_ext (frame-widened ls)))

  -- The group's column is checked as the node's is, and each other one as it was.
  column-later : (i j : ℕ) → j < plain_columns → column_check (widened t) i (suc j) ≡ plain_column_check t i j
  unfolding column_check plain_column_check
  column-later i j l =
      let z : suc j - 1 ≡ j = omega arith in
      let before : field (widened t) i (suc j - 1) ≡ plain_field t i (j - 1) = ap (field (widened t) i) z ∙ widened-field i j (omega arith) in
      let v : field (widened t) i (suc j) ≡ plain_field t i j = widened-field i (suc j) (omega arith) ∙ ap (plain_field t i) z in
      ap₂ (check_of i) (ap₂ (within (suc j)) before v ∙ within-now j (plain_field t i (j - 1)) (plain_field t i j)) v

  column-first : (i : ℕ) → column_check (widened t) i 0 ≡ plain_column_check t i 0
  unfolding column_check plain_column_check
  column-first i = rw (widened-field i 0 (omega arith))

  columns-widened : (i : ℕ) → columns_check (widened t) i ≡ first_of (plain_column_check t i) plain_columns 0
  unfolding columns_check first_of
  columns-widened i =
      let check = plain_column_check t i in
      let later : (d : ℕ) → d < plain_columns → column_check (widened t) i (1 + d) ≡ check (0 + d)
      = λ d l. let p : 1 + d ≡ suc d = omega arith in let q : 0 + d ≡ d = omega arith in rw (p, q) (column-later i d l) in
      ap₂ first (column-first i) (first-same (column_check (widened t) i) check plain_columns 1 0 later)
      ∙ first-twice (check 0) (first_of check (plain_columns - 1) 1)

  -- No node stands in a second group.
  one-group : (i : ℕ) → has_second_group (widened t) i ≡ false
  unfolding has_second_group is_other_group
  one-group i =
      never (is_other_group (widened t) i)
      (λ m. rw (widened-field m node_column (omega arith), widened-field i node_column (omega arith), widened-field m group_column (omega arith), widened-field i group_column (omega arith))
      (and-not (eqb (plain_field t m 0) (plain_field t i 0)))) (range 0 i)

  earlier-widened : (i : ℕ) → stands_earlier (widened t) i ≡ exists (plain_same_frame t i) (range 0 i)
  unfolding stands_earlier is_same_frame plain_same_frame
  earlier-widened i =
      ap (λ (p : ℕ → Bool). exists p (range 0 i))
      (fun_ext (λ m. rw (widened-field m identifier_column (omega arith), widened-field i identifier_column (omega arith), widened-field m kind_column (omega arith), widened-field i kind_column (omega arith))))

  line-widened : (i : ℕ) → line_check (widened t) i ≡ plain_line_check t i
  unfolding line_check plain_line_check
  line-widened i = rw (columns-widened i, earlier-widened i, one-group i)

  size-widened : rows_size_check (length (widened t)) ≡ plain_size_check (length t)
  unfolding rows_size_check plain_size_check
  size-widened =
      let n : ℕ = length t / plain_columns in
      let size = length-widened in
      let none : eqb (length (widened t)) 0 ≡ eqb (length t) 0
      = elim (ℕ_discrete n 0) [
        | yes z ↦ eq-eqb (length (widened t)) 0 (omega arith) ∙ sym (eq-eqb (length t) 0 (omega arith))
        | no z ↦ ne_eqb (length (widened t)) 0 (omega arith) ∙ sym (ne_eqb (length t) 0 (omega arith))
      ] in
      let even : length (widened t) % columns ≡ 0 = omega arith in
      let most : ℕ = columns * most_lines in
      let plain_most : ℕ = plain_columns * most_lines in
      let long : ltb most (length (widened t)) ≡ ltb plain_most (length t)
      = elim (dec_lt most_lines n) [
        | yes h ↦ lt-ltb most (length (widened t)) (omega arith) ∙ sym (lt-ltb plain_most (length t) (omega arith))
        | no h ↦ le-ltb most (length (widened t)) (omega arith) ∙ sym (le-ltb plain_most (length t) (omega arith))
      ] in
      rw (none, even, whole, long)

  -- The checks come to the same.
  pub widened-check : rows_check (widened t) ≡ plain_check t
  unfolding rows_check table_check lines_check plain_check
  widened-check =
      rw (size-widened, widened-frames [], rows-widened, ap (λ (c : ℕ → Result (Unit {0}) Refusal). first_of c (length t / plain_columns) 0) (fun_ext line-widened))

-- ---- every table whose groups are its nodes is a widened one

-- the rows without their groups
unfoldable pub narrowed : List ℕ → List ℕ
narrowed rows = map (λ k. field rows (k / plain_columns) (column_now (k % plain_columns))) (range 0 (plain_columns * (length rows / columns)))

module _ (rows : List ℕ) (whole : length rows % columns ≡ 0) (same : (i : ℕ) → i < length rows / columns → field rows i group_column ≡ field rows i node_column) where
  abbrev count : ℕ
  count = length rows / columns

  length-narrowed : length (narrowed rows) ≡ plain_columns * count
  unfolding narrowed
  length-narrowed = length-map (range 0 (plain_columns * count)) (λ k. field rows (k / plain_columns) (column_now (k % plain_columns))) ∙ length-range 0 _

  pub narrowed-whole : length (narrowed rows) % plain_columns ≡ 0
  narrowed-whole = omega (arith, length-narrowed)

  narrowed-field : (i j : ℕ) → i < count → j < plain_columns → plain_field (narrowed rows) i j ≡ field rows i (column_now j)
  unfolding narrowed
  narrowed-field i j h l =
      let x : (0 + (plain_columns * i + j)) / plain_columns ≡ i = omega arith in
      let y : (0 + (plain_columns * i + j)) % plain_columns ≡ j = omega arith in
      get_d-table (λ k. field rows (k / plain_columns) (column_now (k % plain_columns))) 0 (plain_columns * count) (plain_columns * i + j) 0 (omega arith) ∙ rw (x, y)

  -- What stands a column earlier without groups is what stands there.
  column-back : (i j : ℕ) → i < count → field rows i (column_now (j - 1)) ≡ field rows i j
  column-back i zero h = refl
  column-back i (suc zero) h = sym (same i h)
  column-back i (suc (suc j)) h = let z : suc (suc j) - 1 ≡ suc j = omega arith in rw z

  field_back : (i j : ℕ) → i < count → j < columns → field (widened (narrowed rows)) i j ≡ field rows i j
  field_back i j h l = widened-field (narrowed rows) narrowed-whole i j l ∙ narrowed-field i (j - 1) h (omega arith) ∙ column-back i j h

  pub widened-back : widened (narrowed rows) ≡ rows
  widened-back =
      let size = length-widened (narrowed rows) narrowed-whole in
      let narrow = length-narrowed in
      ext_get_or 0 (widened (narrowed rows)) rows (omega arith)
      (λ k l. let place : columns * (k / columns) + k % columns ≡ k = omega arith in
      rw place at (field_back (k / columns) (k % columns) (omega arith) (omega arith)))
