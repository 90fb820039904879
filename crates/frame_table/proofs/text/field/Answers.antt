-- `frame_table::text::field` meets its contract: only the first field of a line says whether the line ends in a line feed.
use Prim.Native.Nat.{ℕ, ◌+◌, ◌-◌, ◌*◌}
use mathlib.Core.Path.{◌≡◌}
use native.Mathlib.Omega.{arith}
use borrow.Author.Tests.{eq-eqb, ne_eqb}
use Rattle.table_checks.specs.Columns.{feed_at, line_length}
use Rattle.frame_table.specs.Text.{field_at, terminated}
use Rattle.frame_table.proofs.text.field.Goals as goal
use Rattle.frame_table.proofs.text.field.Goals.{else-j-eq0-via-then-j-eq0+else-file-i-ne-LINE_FEED, else-j-eq0-via-else-j-eq0}

-- the line feed's place
last : (i : ℕ) → line_length * i + line_length - 1 ≡ line_length * i + feed_at
last i = omega arith

pub returns-then-file-i-ne-LINE_FEED : goal.returns-then-file-i-ne-LINE_FEED
unfolding field_at terminated
returns-then-file-i-ne-LINE_FEED c = simp (eq-eqb _ _ c.if-j-eq0.true, ne_eqb _ _ (rw last at c.if-file-i-ne-LINE_FEED.true))

pub returns-else-j-eq0 : goal.returns-else-j-eq0
unfolding field_at terminated
returns-else-j-eq0 c =
    elim c.else-j-eq0.branch [
      | else-j-eq0-via-then-j-eq0+else-file-i-ne-LINE_FEED w ↦
          simp (eq-eqb _ _ w.if-j-eq0.true, eq-eqb _ _ (rw last at w.if-file-i-ne-LINE_FEED.false)) c.column.ensures
      | else-j-eq0-via-else-j-eq0 w ↦ simp (ne_eqb _ _ w.if-j-eq0.false) c.column.ensures
    ]
