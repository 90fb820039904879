-- `simulator::text::write_log` meets its contract: after i turns the first i lines are written, and the rest is as it was.
use Rattle.std.specs.Prelude.{◌≡◌, ◌*◌}
use Rattle.table_checks.specs.Table.{frames}
use Rattle.arith.specs.Laws.Overwriting.{over}
use Rattle.simulator.specs.Engine.{after}
use Rattle.simulator.specs.Text.{log_text, lines_from}
use Rattle.simulator.proofs.text.write_log.Given as goal

abbrev pub invariant-loop-i : goal.invariant-loop-i
invariant-loop-i l = record {
  engine : l.s ≡ after (frames l.table) l.initial.s l.i;
  written : l.out ≡ over (log_text (lines_from (frames l.table) l.table.rows.now l.initial.s l.lines 0)) (40 * l.i) l.initial.out;
}
