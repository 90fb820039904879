-- The alignments stand at the beginning, and the instance behind them.
use mathlib.Core.Path.{◌≡◌}
use native.Mathlib.Omega.{arith}
use borrow.Author.Rules.{rules}
use lib.ListN.{length}
use Rattle.arith.specs.Laws.Overwriting.{begun-none, begun-part, begun-element}
use Rattle.certifier.proofs.explain_entry.write_case.Goals as goal
use Rattle.certifier.proofs.explain_entry.write_case.Goals.{Start}

-- the alignments are as many as the groups
long : (s : Start) → length s.args.alignments ≡ 16
long s = search rules

pub returns : goal.returns
returns c =
    let a = c.args in
    let copied : c.copy_from_slice.new.self ≡ a.alignments = search rules in
    rw copied (begun-element a.alignments a.shown.now _ 16 (begun-part _ a.shown.now _ 0 (begun-none a.shown.now) a.alignments 16 (long (goal.at.returns c).Start)) a.q (omega (arith, c.requires))).is
