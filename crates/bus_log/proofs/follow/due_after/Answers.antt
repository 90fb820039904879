-- `bus_log::follow::due_after` meets its contract.
use Rattle.bus_log.proofs.Theory.Table.{any-group}
use Rattle.bus_log.proofs.follow.due_after.Goals as goal

pub due_next-requires : goal.due_next-requires
due_next-requires c =
    (c.requires.d_value.2, rw c.frame.ensures (any-group c.args.lengths c.args.rows.now c.requires.accepted _), c.requires.d_value.3, c.requires.d_value.4)
