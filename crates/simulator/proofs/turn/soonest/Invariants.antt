-- `simulator::turn::soonest` meets its contract: after i turns it has the soonest of i rows.
use Rattle.std.specs.Prelude.{◌≡◌, ◌<◌}
use Rattle.bus_log.specs.Follow.{due_of}
use Rattle.simulator.specs.Engine.{lowest_of}
use Rattle.simulator.proofs.turn.soonest.Given as goal

abbrev pub invariant-loop-i : goal.invariant-loop-i
invariant-loop-i l = (l.k ≡ lowest_of (due_of l.due) l.i) × (l.k < 64)
