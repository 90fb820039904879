-- `certifier::listing::write_row` meets its contract: the line is written from the identifier of the row and from its judgement.
use mathlib.Core.Path.{ap, ◌∙◌}
use native.Mathlib.Omega.{arith}
use Rattle.table_checks.proofs.Laws.Accepted.{length-frames}
use Rattle.certifier.specs.Listing.{listing_line, line_of}
use Rattle.certifier.proofs.listing.write_row.Goals as goal

pub judge_row-judgement-requires : goal.judge_row-judgement-requires
judge_row-judgement-requires c =
    record { i_in_bounds = omega (arith, length-frames c.args.table.now.lengths c.args.table.now.rows.now, c.requires.i_in_bounds.0); fine_faults = c.requires.fine_faults }

pub returns : goal.returns
unfolding line_of
returns c =
    c.write_line.ensures ∙ ap (listing_line _) c.judge_row-judgement.ensures
