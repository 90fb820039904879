use Rattle.load_sheet.proofs.Laws.Loads.{group-first, group-here, group-later, group-none}
use Rattle.load_sheet.proofs.loads.group_of.Goals as goal

pub loop-i-init : goal.loop-i-init
loop-i-init c = group-first _ _

pub returns-then-rows-i : goal.returns-then-rows-i
returns-then-rows-i c = group-here _ _ _ c.loop-i-test.true c.loop-i.invariant c.if-rows-i.true

pub loop-i-preserved : goal.loop-i-preserved
loop-i-preserved c = group-later _ _ _ c.loop-i-test.true c.loop-i.invariant c.if-rows-i.false

pub returns : goal.returns
returns c = group-none _ _ _ c.loop-i-test.false c.loop-i.invariant
