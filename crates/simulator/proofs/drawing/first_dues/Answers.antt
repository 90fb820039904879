use Rattle.std.specs.Prelude.{refl}
use Rattle.bus_log.proofs.Theory.Filled.{fill_more, fill-all}
use Rattle.simulator.proofs.drawing.first_dues.Goals as goal

pub loop-i-preserved : goal.loop-i-preserved
loop-i-preserved c = fill_more _ 64 _ _ refl _ _ c.loop-i.invariant c.loop-i-test.true c.first_due.ensures

pub returns : goal.returns
returns c = fill-all _ 64 _ _ refl _ c.loop-i.invariant c.loop-i.auto.i-end c.loop-i-test.false
