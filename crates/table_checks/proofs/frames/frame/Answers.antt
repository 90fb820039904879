-- `table_checks::frames::frame` meets its contract: it reads the numbers that the definition reads.
use mathlib.Core.Path.{sym}
use Rattle.table_checks.specs.Frames.{frame_at}
use Rattle.table_checks.proofs.Laws.Accepted.{no_row, frame_row}
use borrow.Author.Rules.{rules}
use Rattle.table_checks.proofs.frames.frame.Goals as goal

pub returns-then-rows-i : goal.returns-then-rows-i
returns-then-rows-i c = sym (no_row _ _ _ c.if-rows-i.true)

pub returns : goal.returns
unfolding frame_at
returns c =
    rw (frame_row c.args.lengths c.args.rows.now c.args.i (search rules))
    (simp (c.priority.ensures, c.largest_length.ensures))
