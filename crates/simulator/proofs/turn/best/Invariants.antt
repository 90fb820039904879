-- `simulator::turn::best` meets its contract: after i turns it has the best-ranked of i rows.
use Rattle.std.specs.Prelude.{◌≡◌, ◌<◌}
use Rattle.simulator.specs.Engine.{rank_at, lowest_of}
use Rattle.table_checks.specs.Table.{frames}
use Rattle.simulator.proofs.turn.best.Given as goal

abbrev pub invariant-loop-i : goal.invariant-loop-i
invariant-loop-i l = (l.k ≡ lowest_of (rank_at (frames l.table) l.due l.t) l.i) × (l.k < 64)
