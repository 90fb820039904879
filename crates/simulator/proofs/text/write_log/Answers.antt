use mathlib.Core.Path.{refl, ap, ◌∙◌}
use native.Mathlib.Omega.{arith}
use Rattle.table_checks.specs.Table.{frames}
use Rattle.table_checks.specs.Frames.{frames_of}
use Rattle.arith.specs.Laws.Lines.{line-over, lines-over}
use Rattle.simulator.specs.Engine.{after}
use Rattle.simulator.specs.Text.{line_of, line_text}
use Rattle.simulator.proofs.Theory.Layout.{log-lines}
use Rattle.simulator.proofs.Theory.Turns.{Small, turn-entry, turn_moved, turn_small}
use Rattle.simulator.proofs.text.write_log.Goals as goal
use Rattle.simulator.proofs.text.write_log.Goals.{After-entry_next-e}

pub loop-i-init : goal.loop-i-init
unfolding after
loop-i-init c = record { engine = refl; written = refl }

-- what the transmission has
small : (c : After-entry_next-e) → Small c.args.table.now.rows.now c.entry_next-e.result
small c =
    turn_small c.args.table.now.lengths c.args.table.now.accepted.0 c.args.table.now.rows.now c.args.table.now.accepted.1 c.args.first _ c.loop-i.i _ _ c.loop-i.invariant.engine c.drawn-v.ensures c.entry_next-e.ensures c.requires.0 (omega (arith, c.loop-i-test.true, c.requires.1))

pub line_of-requires : goal.line_of-requires
line_of-requires c = let z = small (goal.at.line_of-requires c).After-entry_next-e in (z.inside, z.row)

pub moved_by-s-requires : goal.moved_by-s-requires
moved_by-s-requires c = let z = small (goal.at.moved_by-s-requires c).After-entry_next-e in (z.row, omega (arith, z.start), omega (arith, z.release), omega (arith, z.length-max))

pub loop-i-preserved : goal.loop-i-preserved
loop-i-preserved c =
    let ls = c.args.table.now.lengths in
    let rows = c.args.table.now.rows.now in
    let below = c.loop-i-test.true in
    let line = c.write_line.ensures ∙ ap line_text (c.line_of.ensures ∙ ap (line_of rows) (turn-entry ls c.args.table.now.accepted.0 rows c.args.table.now.accepted.1 c.args.first _ c.loop-i.i _ _ c.loop-i.invariant.engine c.drawn-v.ensures c.entry_next-e.ensures)) in record {
      engine = turn_moved ls c.args.table.now.accepted.0 rows c.args.table.now.accepted.1 c.args.first _ c.loop-i.i _ _ c.loop-i.invariant.engine c.drawn-v.ensures c.entry_next-e.ensures _ c.moved_by-s.ensures;
      written = line-over (log-lines (frames_of ls rows) rows c.args.first) _ _ _ _ c.loop-i.invariant.written _ below line;
    }

pub returns : goal.returns
returns c = lines-over (log-lines (frames c.args.table.now) c.args.table.now.rows.now c.args.first) _ _ _ _ c.loop-i.invariant.written c.loop-i.auto.i-end c.loop-i-test.false
