use borrow.Author.Rules.{rules}
use Rattle.arith.specs.Laws.Lines.{line-over, lines-over}
use Rattle.log_load.specs.Log.{lines}
use Rattle.log_load.specs.Theory.Sheet.{row-lines, none_left}
use Rattle.log_load.proofs.sheet.write_rows.Goals as goal

pub loop-i-preserved : goal.loop-i-preserved
loop-i-preserved c =
    let written = row-lines c.args.rows.now (lines c.args.log.now) in
    (line-over written _ _ _ _ c.loop-i.invariant.0 _ c.loop-i-test.true c.write_row.ensures, search rules)

pub returns : goal.returns
returns c =
    let written = row-lines c.args.rows.now (lines c.args.log.now) in
    none_left _ _ _ _ (lines-over written _ _ _ _ c.loop-i.invariant.0 c.loop-i.auto.i-end c.loop-i-test.false) c.requires.2
