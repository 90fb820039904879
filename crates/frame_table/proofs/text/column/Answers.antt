-- `frame_table::text::column` meets its contract: the part of the file that is read is column j of line i.
use Rattle.std.specs.Prelude.{Option, Some, None}
use Rattle.std.specs.Option.{unwrap_or}
use Prim.Native.Nat.{ℕ, ◌+◌, ◌-◌, ◌*◌, ◌≤◌}
use mathlib.Core.Path.{◌≡◌, refl, ap, ◌∙◌}
use native.Mathlib.Omega.{arith}
use Rattle.decimal.specs.Decimal.{read_column}
use Rattle.table_checks.specs.Columns.{width_of, feed_at, line_length}
use Rattle.table_checks.specs.Checks.{malformed}
use Rattle.frame_table.specs.Text.{column_at, field_of}
use Rattle.frame_table.specs.Laws.Layout.{start-next, end-most, column-place}
use Rattle.frame_table.proofs.text.column.Goals as goal
use Rattle.frame_table.proofs.text.column.Goals.{After-read, After-start-2}

-- a column that breaks the notation bears its mark
marked : (o : Option ℕ) → unwrap_or o malformed ≡ field_of o
unfolding field_of
marked (Some n) = refl
marked None = refl

-- the column's place in its line
place : (c : After-start-2) → (c.start.result + width_of c.args.j ≡ c.start-2.result) × (c.start-2.result ≤ feed_at)
place c = column-place _ _ _ c.requires.1 c.start.ensures c.start-2.ensures

-- what is read is the column
found : (c : After-read) → let a = c.args in c.read.result ≡ read_column (column_at a.file.now a.i a.j)
unfolding column_at
found c =
    let i = c.args.i in
    let placed : (c.start.result + width_of c.args.j ≡ c.start-2.result) × (c.start-2.result ≤ feed_at) = column-place _ _ _ c.requires.1 c.start.ensures c.start-2.ensures in
    let w : line_length * i + c.start-2.result - (line_length * i + c.start.result) ≡ width_of c.args.j = omega arith in
    rw (← w, ← c.start.ensures) c.read.ensures

pub overflow_add-from : goal.overflow_add-from
overflow_add-from c = omega (arith, c.start.ensures, start-next _ c.requires.1, end-most _ c.requires.1)

pub overflow_add-to : goal.overflow_add-to
overflow_add-to c = omega (arith, place c)

pub slice_bounds-read-count : goal.slice_bounds-read-count
slice_bounds-read-count c = omega (arith, place c)

pub slice_bounds-read-start : goal.slice_bounds-read-start
slice_bounds-read-start c = omega (arith, place c)

pub slice_bounds-read-end : goal.slice_bounds-read-end
slice_bounds-read-end c = omega (arith, place c)

pub returns : goal.returns
returns c = c.unwrap_or.ensures ∙ marked _ ∙ ap field_of (found (goal.at.returns c).After-read)
