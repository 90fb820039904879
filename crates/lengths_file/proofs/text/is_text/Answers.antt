-- `lengths_file::text::is_text` meets its contract: the size comes first, then the lines.
use mathlib.Core.Path.{sym, ◌∙◌}
use borrow.Author.Tests.{eq-eqb, ne_eqb}
use Rattle.lengths_file.specs.Lengths.{is_text}
use Rattle.lengths_file.proofs.text.is_text.Goals as goal

pub returns-then-file-ne-FILE : goal.returns-then-file-ne-FILE
unfolding is_text
returns-then-file-ne-FILE c = rw (ne_eqb _ _ c.if-file-ne-FILE.true)

pub returns-then-is_line : goal.returns-then-is_line
unfolding is_text
returns-then-is_line c =
    rw (eq-eqb _ _ c.if-file-ne-FILE.false, sym c.is_line.ensures ∙ c.if-is_line.true) c.is_line-then-is_line.ensures

pub returns-else-is_line : goal.returns-else-is_line
unfolding is_text
returns-else-is_line c = rw (eq-eqb _ _ c.if-file-ne-FILE.false, sym c.is_line.ensures ∙ c.if-is_line.false) c.if-is_line.false
