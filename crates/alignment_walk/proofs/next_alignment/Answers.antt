use Rattle.std.proofs.Common.{suc, arith, le-leb}
use Rattle.std.proofs.lemmas.Bool.{lt-leb}
use Rattle.std.proofs.Math.Decide.{dec_le}
use mathlib.Core.Path.{ap, ◌∙◌}
use Rattle.alignment_walk.specs.Steps.{next_release}
use Rattle.alignment_walk.proofs.Laws.Parts.{first_next, next-is, next-none}
use Rattle.alignment_walk.proofs.next_alignment.Goals as goal

pub loop-i-preserved : goal.loop-i-preserved
loop-i-preserved c =
    let l = c.loop-i in
    first_next l.invariant c.loop-i-test.true (c.next_release.ensures ∙ ap (next_release c.args.after) c.listed_row-r.ensures.frame_value) c.min-best.ensures

pub returns : goal.returns
returns c =
    let fine = c.requires.fine_part in
    let best = c.loop-i.best in
    let e = c.args.end in
    elim (dec_le e best) [
      | yes over ↦ (rw (lt-leb (suc best) e (omega arith)) at c.then_some.ensures) ∙ next-none fine c.loop-i.invariant c.loop-i-test.false over
      | no under ↦ (rw (le-leb (suc best) e (omega arith)) at c.then_some.ensures) ∙ next-is fine c.loop-i.invariant c.loop-i-test.false (omega arith)
    ]
