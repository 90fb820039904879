-- `simulator::drawing::first_due` meets its contract.
use native.Mathlib.Omega.{arith}
use Rattle.simulator.specs.Starts.{first_due}
use Rattle.simulator.specs.Theory.First.{Early}
use Rattle.bus_log.proofs.Theory.Table.{any-group}
use Rattle.simulator.proofs.drawing.first_due.Goals as goal

pub bounds-d-g : goal.bounds-d-g
bounds-d-g c = rw c.frame-g.ensures (any-group c.args.table.now.lengths c.args.table.now.rows.now c.args.table.now.accepted.1 c.args.i)

pub overflow_add-result : goal.overflow_add-result
unfolding Early
overflow_add-result c = omega (arith, c.requires c.frame-g.result.group)

pub returns : goal.returns
unfolding first_due
returns c = rw (c.from.ensures, c.frame-g.ensures)
