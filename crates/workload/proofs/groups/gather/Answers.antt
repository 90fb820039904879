use Rattle.std.proofs.Common.{◌<◌, length, sym, refl, ap, ◌∙◌, arith}
use Rattle.arith.specs.Laws.Gathering.{gathered_none, gathered-room, gathered-put, gathered-skip}
use Rattle.table_checks.specs.Frames.{frames_of}
use Rattle.table_checks.proofs.Laws.Accepted.{length-frames}
use Rattle.workload.proofs.Laws.Groups.{is_member, rows_few, rows-gathered}
use Rattle.workload.proofs.groups.gather.Goals as goal
use Rattle.workload.proofs.groups.gather.Goals.{In-loop-i, then-belongs, else-belongs}

pub loop-i-init : goal.loop-i-init
loop-i-init c = gathered_none refl (omega arith) (rows_few _ _ _ _ c.requires.group_in_bounds)

-- the row is one of the table
inside : (c : In-loop-i) → c.loop-i.i < length (frames_of c.args.lengths c.args.rows.now)
inside c = omega (arith, length-frames c.args.lengths c.args.rows.now, c.loop-i-test.true)

pub bounds-area-found : goal.bounds-area-found
bounds-area-found c =
    let g = c.loop-i.invariant in
    let a = c.args in
    omega (arith, g.whole, gathered-room g (inside (goal.at.bounds-area-found c).In-loop-i) (sym (c.belongs.ensures ∙ ap (is_member a.k a.group) c.frame.ensures) ∙ c.if-belongs.true))

pub loop-i-preserved : goal.loop-i-preserved
loop-i-preserved c =
    let g = c.loop-i.invariant in
    let a = c.args in
    let less = inside (goal.at.loop-i-preserved c).In-loop-i in
    let test = c.belongs.ensures ∙ ap (is_member a.k a.group) c.frame.ensures in
    elim c.if-belongs.branch [
      | then-belongs w ↦ gathered-put g less _ test w.if-belongs.true w.area-is w.found-is
      | else-belongs w ↦ gathered-skip g less _ test w.if-belongs.false w.area-is w.found-is
    ]

pub returns : goal.returns
returns c = let answer = rows-gathered _ _ _ c.loop-i.invariant (omega (arith, length-frames c.args.lengths c.args.rows.now, c.loop-i-test.false)) in record { area_after = answer.0; count = answer.1 }
