-- `load_sheet::sheet::find_nodes` meets its contract: the invariant has the nodes found and those still to come.
use Rattle.arith.specs.Laws.Gathering.{Gathered}
use Rattle.load_sheet.specs.Sheet.{has_frames}
use Rattle.load_sheet.proofs.sheet.find_nodes.Given as goal

abbrev pub invariant-loop-node : goal.invariant-loop-node
invariant-loop-node l = Gathered (has_frames l.rows) 1 17 16 l.nodes l.found l.node
