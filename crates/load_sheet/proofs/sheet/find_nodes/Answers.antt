use mathlib.Core.Path.{sym, ◌∙◌}
use native.Mathlib.Omega.{arith}
use Rattle.arith.specs.Laws.Gathering.{range-room, gathered_none, gathered-room, gathered-put, gathered-skip, gathered-all}
use Rattle.load_sheet.specs.Sheet.{has_frames, nodes_of}
use Rattle.load_sheet.proofs.sheet.find_nodes.Goals as goal
use Rattle.load_sheet.proofs.sheet.find_nodes.Goals.{else-has_frames, then-has_frames}

pub loop-node-init : goal.loop-node-init
loop-node-init c = gathered_none c.requires (omega arith) (range-room (has_frames c.args.rows.now) 1 17 (omega arith))

pub bounds-nodes-found : goal.bounds-nodes-found
bounds-nodes-found c = let g = c.loop-node.invariant in omega (arith, g.whole, gathered-room g (omega (arith, c.loop-node-test.true)) (sym c.has_frames.ensures ∙ c.if-has_frames.true))

pub loop-node-preserved : goal.loop-node-preserved
loop-node-preserved c =
    let g = c.loop-node.invariant in
    elim c.if-has_frames.branch [ then-has_frames w ↦ gathered-put g (omega (arith, c.loop-node-test.true)) _ c.has_frames.ensures w.if-has_frames.true w.nodes-is w.found-is | else-has_frames w ↦ gathered-skip g (omega (arith, c.loop-node-test.true)) _ c.has_frames.ensures w.if-has_frames.false w.nodes-is w.found-is ]

pub returns : goal.returns
unfolding nodes_of
returns c =
    let (all, counted, few) = gathered-all c.loop-node.invariant c.loop-node-test.false in
    record { nodes_after = all; counted = (counted, few) }
