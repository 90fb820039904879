-- `log_load::sheet::seen_of` meets its contract: what is seen and what the lines left show.
use Prim.Native.Nat.{◌*◌, ◌≤◌, ◌^◌}
use Rattle.arith.specs.Laws.Walks.{Through}
use Rattle.log_load.specs.Log.{lines}
use Rattle.log_load.specs.Sheet.{seen_of}
use Rattle.log_load.specs.Theory.Sheet.{joined}
use Rattle.log_load.proofs.sheet.seen_of.Given as goal

abbrev pub invariant-loop-j : goal.invariant-loop-j
invariant-loop-j l = Through (seen_of l.rows l.i) joined (lines l.log) (seen_of l.rows l.i (lines l.log)) l.seen l.j × (l.seen.count ≤ l.j) × (l.seen.total ≤ 2 ^ 41 * l.j)
