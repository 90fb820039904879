-- The four columns and the line feed are written one behind the other and fill the line.
use mathlib.Core.Path.{◌∙◌}
use native.Mathlib.Omega.{arith}
use Rattle.arith.specs.Laws.Signed.{kept}
use Rattle.certifier.proofs.Laws.Listing.{line-written}
use Rattle.certifier.proofs.listing.write_line.Goals as goal

pub returns : goal.returns
returns c =
    let j = c.args.judgement in
    line-written _ _ _ j c.args.line.now _ _ _ _ c.requires (c.from-2.ensures ∙ c.verdict-verdict.ensures)
    (kept j.margin (omega arith))
    (rw c.from.ensures at c.write.ensures) c.write-2.ensures (rw c.from-3.ensures at c.write-3.ensures) c.write_signed.ensures
