use mathlib.Core.Path.{◌≡◌, ◌∙◌}
use borrow.Author.Tests.{eq-eqb, ne_eqb}
use native.Mathlib.Nat.{sub-zero}
use lib.Dec.{eqb}
use Rattle.table_checks.specs.Table.{frames}
use Rattle.table_checks.proofs.Laws.Accepted.{length-frames}
use Rattle.arith.specs.Laws.Members.{exists-stop, exists-go, exists-end}
use Rattle.bus_model.specs.Frame.{row}
use Rattle.simulator.specs.Starts.{has_frames}
use Rattle.simulator.proofs.drawing.has_frames.Goals as goal
use Rattle.simulator.proofs.drawing.has_frames.Goals.{After-frame}

pub loop-i-init : goal.loop-i-init
unfolding has_frames
loop-i-init c = rw (sub-zero, c.count-i-end.ensures, length-frames)

-- the test of row i
tested : (c : After-frame) → eqb c.frame.result.group c.args.group ≡ eqb (row (frames c.args.table.now) c.loop-i.i).group c.args.group
tested c = rw c.frame.ensures

pub returns-then-frame-group : goal.returns-then-frame-group
returns-then-frame-group c = exists-stop _ _ _ _ c.loop-i-test.true (tested (goal.at.returns-then-frame-group c).After-frame) (eq-eqb _ _ c.if-frame-group.true) ∙ c.loop-i.invariant

pub loop-i-preserved : goal.loop-i-preserved
loop-i-preserved c = exists-go _ _ _ _ c.loop-i-test.true (tested (goal.at.loop-i-preserved c).After-frame) (ne_eqb _ _ c.if-frame-group.false) ∙ c.loop-i.invariant

pub returns : goal.returns
returns c = exists-end _ _ _ c.loop-i-test.false ∙ c.loop-i.invariant
