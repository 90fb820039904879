use mathlib.Core.Path.{sym, ap, ◌∙◌}
use native.Mathlib.Omega.{arith}
use Rattle.arith.specs.Laws.Walks.{through-more, through-end}
use Rattle.bus_log.specs.declared.Line.{Line}
use Rattle.log_load.specs.Steps.{no_line, with_line}
use Rattle.log_load.specs.Theory.Sheet.{seen_more, seen_end}
use Rattle.log_load.proofs.sheet.seen_of.Goals as goal

pub loop-j-preserved : goal.loop-j-preserved
loop-j-preserved c =
    let l = c.loop-j in
    let w = c.with_line-seen.ensures in (
      through-more _ _ _ _ no_line l.invariant.0 (omega (arith, c.loop-j-test.true, c.count-n.ensures.value))
          (λ ls. seen_more c.args.rows.now c.args.i l.seen _ _ ls (w.value ∙ ap (λ (k : Line). with_line c.args.rows.now c.args.i k l.seen) c.line.ensures.value)),
      omega (arith, l.invariant.1, w.small.0),
      omega (arith, l.invariant.2, w.small.1),
    )

pub returns : goal.returns
returns c = sym (seen_end c.args.rows.now c.args.i _) ∙ through-end _ _ _ _ c.loop-j.invariant.0 (omega (arith, c.loop-j-test.false, c.count-n.ensures.value))
