-- `frame_table::read` meets its contract: the file's length is checked first, then its fields, and fields that passed are stored where
-- they have room.
use Rattle.std.specs.Prelude.{Ok}
use Prim.Native.Nat.{ℕ, ◌/◌, ◌≤◌}
use mathlib.Core.Path.{◌≡◌, sym, ◌∙◌}
use mathlib.Core.List.{List}
use native.Mathlib.Omega.{arith}
use borrow.Author.Rules.{rules}
use lib.ListN.{length, length-take}
use Rattle.std.proofs.lemmas.Result.{err_from_is_err_and}
use Rattle.table_checks.specs.Columns.{most_lines, line_length}
use Rattle.table_checks.specs.Checks.{file_size_check, table_check, rows_check}
use Rattle.table_checks.proofs.Laws.Sizes.{file-size, sized-check}
use Rattle.frame_table.specs.Text.{fields_of}
use Rattle.frame_table.specs.Table.{read_check}
use Rattle.frame_table.specs.Laws.Areas.{area-refused, area-short, area-written}
use Rattle.frame_table.specs.Laws.Storable.{storable}
use Rattle.frame_table.specs.Laws.Layout.{fields-size, length_fields}
use Rattle.frame_table.specs.Laws.Returns.{answer-told}
use Rattle.frame_table.proofs.read.Goals as goal
use Rattle.frame_table.proofs.read.Goals.{In_ok-check_length, After-read_fields, In_ok-check_fields}

-- the size of the fields is right, so that their check is the file's
same-check : (file read : List ℕ) → file_size_check (length file) ≡ Ok tt → read ≡ fields_of file → (rows_check read ≡ table_check read) × (rows_check read ≡ read_check file)
unfolding read_check
same-check file read e same = let t = sized-check read (rw same (fields-size file e)) in (t, t ∙ rw (same, e))

-- the length is right
sized : (c : In_ok-check_length) → file_size_check (length c.args.file.now) ≡ Ok tt
sized c = sym c.in_ok-check_length.ensures.value

-- the fields of a file that passed fit
few : (c : In_ok-check_length) → length c.args.file.now / line_length ≤ most_lines
few c = (file-size _ (sized c)).most

pub returns-in_err-check_length : goal.returns-in_err-check_length
unfolding read_check
returns-in_err-check_length c =
    let file : List ℕ = c.args.file.now in
    let p = err_from_is_err_and c.from_residual.result c.from_residual.ensures.1 in
    let answer = answer-told (read_check file) (fields_of file) c.args.rows.now (area-refused _ _ _ _ _ (rw (← c.in_err-check_length.ensures.value, p.2)) p.1) in
    record { value = answer.0; rows_after = answer.1.0; in_numbers = answer.1.1 }

pub read_fields-requires : goal.read_fields-requires
read_fields-requires c = omega (arith, few (goal.at.read_fields-requires c).In_ok-check_length)

pub slice_bounds-fields-end : goal.slice_bounds-fields-end
slice_bounds-fields-end c = let fits = few (goal.at.slice_bounds-fields-end c).In_ok-check_length in search rules

pub slice_bounds-check_fields-end : goal.slice_bounds-check_fields-end
slice_bounds-check_fields-end c = let fits = few (goal.at.slice_bounds-check_fields-end c).In_ok-check_length in simp length-take (omega arith)

pub returns-in_err-check_fields : goal.returns-in_err-check_fields
unfolding fields_of
returns-in_err-check_fields c =
    let file : List ℕ = c.args.file.now in
    let p = err_from_is_err_and c.from_residual-in_err-check_fields.result c.from_residual-in_err-check_fields.ensures.1 in
    let same = same-check file _ (sized (goal.at.returns-in_err-check_fields c).In_ok-check_length) c.read_fields.ensures in
    let answer = answer-told (read_check file) (fields_of file) c.args.rows.now (area-refused _ _ _ _ _ (rw (← same.1, ← c.in_err-check_fields.ensures.value, p.2)) p.1) in
    record { value = answer.0; rows_after = answer.1.0; in_numbers = answer.1.1 }

-- the file passed
passed : (c : In_ok-check_fields) → read_check c.args.file.now ≡ Ok tt
unfolding fields_of
passed c =
    let e : file_size_check (length c.args.file.now) ≡ Ok tt = sym c.in_ok-check_length.ensures.value in
    rw (← (same-check c.args.file.now _ e c.read_fields.ensures).1) (sym c.in_ok-check_fields.ensures.value)

pub returns-then-rows-size : goal.returns-then-rows-size
unfolding fields_of
returns-then-rows-size c =
    let file : List ℕ = c.args.file.now in
    let answer = answer-told (read_check file) (fields_of file) c.args.rows.now (area-short _ _ _ _ _ (length_fields file _ 0) (passed (goal.at.returns-then-rows-size c).In_ok-check_fields) c.if-rows-size.true c.no_room.ensures) in
    record { value = answer.0; rows_after = answer.1.0; in_numbers = answer.1.1 }

pub slice_bounds-fields-end-2 : goal.slice_bounds-fields-end-2
slice_bounds-fields-end-2 c = let fits = few (goal.at.slice_bounds-fields-end-2 c).In_ok-check_length in search rules

pub slice_bounds-narrow-end : goal.slice_bounds-narrow-end
slice_bounds-narrow-end c = let fits = few (goal.at.slice_bounds-narrow-end c).In_ok-check_length in simp length-take (omega arith)

pub narrow-requires-clause-by_index : goal.narrow-requires-clause-by_index
unfolding fields_of
narrow-requires-clause-by_index c =
    let fits = few (goal.at.narrow-requires-clause-by_index c).In_ok-check_length in
    let e = sized (goal.at.narrow-requires-clause-by_index c).In_ok-check_length in
    storable _ (simp length-take (omega arith)) (sym (same-check c.args.file.now _ e c.read_fields.ensures).0 ∙ sym c.in_ok-check_fields.ensures.value)

pub returns : goal.returns
unfolding fields_of
returns c =
    let file : List ℕ = c.args.file.now in
    let size = length_fields file _ 0 in
    let answer = answer-told (read_check file) (fields_of file) c.args.rows.now (area-written _ _ _ _ _ size (passed (goal.at.returns c).In_ok-check_fields) c.if-rows-size.false (rw (c.read_fields.ensures, size) at c.narrow.ensures)) in
    record { value = answer.0; rows_after = answer.1.0; in_numbers = answer.1.1 }
