use mathlib.Core.Path.{◌≡◌, ◌∙◌}
use native.Mathlib.Nat.{sub-zero}
use native.Mathlib.Omega.{arith}
use Rattle.arith.specs.Laws.Members.{exists-stop, exists-go, exists-end}
use Rattle.bus_model.specs.Frame.{row}
use Rattle.table_checks.specs.Frames.{frames_of}
use Rattle.table_checks.proofs.Laws.Accepted.{length-frames}
use Rattle.bus_log.specs.Follow.{due_of, hinders, row_hinders}
use Rattle.bus_log.proofs.Theory.Table.{few-lines, any-group}
use Rattle.bus_log.proofs.follow.some_hinders.Goals as goal
use Rattle.bus_log.proofs.follow.some_hinders.Goals.{After-does_hinder}

pub loop-i-init : goal.loop-i-init
unfolding row_hinders
loop-i-init c = rw (sub-zero, c.requires.own_value.0, length-frames)

pub bounds-due-i : goal.bounds-due-i
bounds-due-i c =
    omega (arith, few-lines c.args.rows.now c.requires.accepted)

pub does_hinder-requires : goal.does_hinder-requires
does_hinder-requires c =
    (c.requires.own_value.1, rw c.frame.ensures (any-group c.args.lengths c.args.rows.now c.requires.accepted _), c.requires.own_value.2)

-- the test of row i
tested : (c : After-does_hinder) → c.does_hinder.result ≡ hinders c.args.p c.args.own c.args.e (row (frames_of c.args.lengths c.args.rows.now) c.loop-i.i) (due_of c.args.p.due c.loop-i.i)
tested c = rw (← c.frame.ensures) c.does_hinder.ensures

pub returns-then-does_hinder : goal.returns-then-does_hinder
returns-then-does_hinder c = exists-stop _ _ _ _ c.loop-i-test.true (tested (goal.at.returns-then-does_hinder c).After-does_hinder) c.if-does_hinder.true ∙ c.loop-i.invariant

pub loop-i-preserved : goal.loop-i-preserved
loop-i-preserved c = exists-go _ _ _ _ c.loop-i-test.true (tested (goal.at.loop-i-preserved c).After-does_hinder) c.if-does_hinder.false ∙ c.loop-i.invariant

pub returns : goal.returns
returns c = exists-end _ _ _ c.loop-i-test.false ∙ c.loop-i.invariant
