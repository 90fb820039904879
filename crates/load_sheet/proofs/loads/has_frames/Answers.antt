use Rattle.load_sheet.proofs.Laws.Loads.{decides-first, found_here, found-later, found_none}
use Rattle.load_sheet.proofs.loads.has_frames.Goals as goal

pub loop-i-init : goal.loop-i-init
loop-i-init c = decides-first _ _

pub returns-then-rows-i : goal.returns-then-rows-i
returns-then-rows-i c = found_here _ _ _ c.loop-i-test.true c.loop-i.invariant c.if-rows-i.true

pub loop-i-preserved : goal.loop-i-preserved
loop-i-preserved c = found-later _ _ _ c.loop-i-test.true c.loop-i.invariant c.if-rows-i.false

pub returns : goal.returns
returns c = found_none _ _ _ c.loop-i-test.false c.loop-i.invariant
