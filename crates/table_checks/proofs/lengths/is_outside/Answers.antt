-- `table_checks::lengths::is_outside` meets its contract: it reads the numbers that the definition reads.
use mathlib.Core.Path.{ap, ◌∙◌}
use mathlib.Core.Bool.{not}
use Rattle.table_checks.specs.Columns.{is_length}
use Rattle.table_checks.specs.Frames.{length_at}
use Rattle.table_checks.specs.Checks.{is_outside}
use Rattle.table_checks.proofs.lengths.is_outside.Goals as goal

pub returns : goal.returns
unfolding is_outside
returns c =
    let a = c.args in
    ap not (c.is_length.ensures ∙ ap (λ p. is_length (length_at a.lengths a.k p) (length_at a.lengths a.k a.s)) c.saturating_sub.ensures)
