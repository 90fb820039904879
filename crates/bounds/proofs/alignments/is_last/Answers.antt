-- The tick after a is at most the turn.
use Rattle.std.proofs.Common.{arith}
use Rattle.bus_model.proofs.Theory.Turns.{turn-le}
use Rattle.bounds.proofs.alignments.is_last.Goals as goal

pub overflow_add-a : goal.overflow_add-a
overflow_add-a c =
    let p = c.requires in
    let t = p.prepared.filled.table in
    omega (arith, p.le_group.2, t.hyper _ p.le_group.0 p.le_group.1, turn-le t.valid c.args.k c.args.group)
