use Rattle.std.proofs.Common.{◌≡◌, ◌-◌, ◌<◌, length, sym, refl, ◌∙◌, subst, arith, rules}
use lib.ListN.{length-map, get_or-map}
use Rattle.arith.specs.Laws.Walks.{Down}
use Rattle.arith.specs.Laws.Members.{mem-get_d, get_d-within}
use Rattle.bus_model.specs.Frame.{no_frame, row}
use Rattle.bus_model.specs.Pattern.{hyperperiod}
use Rattle.table_checks.specs.Frames.{frames_of}
use Rattle.workload.specs.Prepared.{frames_in}
use Rattle.workload.proofs.Laws.Groups.{part_none, part-more, part-le}
use Rattle.workload.proofs.groups.part_hyperperiod.Goals as goal
use Rattle.workload.proofs.groups.part_hyperperiod.Goals.{After-frame}

pub loop-i-init : goal.loop-i-init
loop-i-init c = (subst (Down hyperperiod _ 1) (length-map c.args.part.now (row (frames_of c.args.lengths c.args.rows.now))) (part_none _), search rules)

-- the frame is that of the row at its place
read : (c : After-frame) → c.frame.result ≡ row (frames_in (frames_of c.args.lengths c.args.rows.now) c.args.part.now) (c.loop-i.i - 1)
read c =
    let a = c.args in
    let f = row (frames_of a.lengths a.rows.now) in
    let inside : c.loop-i.i - 1 < length (frames_in (frames_of a.lengths a.rows.now) a.part.now) = omega (arith, c.loop-i.invariant.0.inside, c.loop-i-test.true) in
    c.frame.ensures ∙ sym (get_d-within (frames_in (frames_of a.lengths a.rows.now) a.part.now) (c.loop-i.i - 1) no_frame (f 0) inside ∙ get_or-map f a.part.now (c.loop-i.i - 1) 0)

pub joined-h-requires : goal.joined-h-requires
joined-h-requires c =
    let l = c.loop-i in
    let fine = c.requires.fine in let small = c.requires.part_bound in
    let m = part-more _ fine l.invariant.0 c.loop-i-test.true (read c) refl in
    (l.invariant.1, rw (read c) (fine _ (mem-get_d _ (l.i - 1) no_frame (omega (arith, l.invariant.0.inside, c.loop-i-test.true)))).period-high, omega (arith, part-le _ fine _ _ m.0, small))

pub loop-i-preserved : goal.loop-i-preserved
loop-i-preserved c =
    let l = c.loop-i in
    let m = part-more _ c.requires.fine l.invariant.0 c.loop-i-test.true (read (goal.at.loop-i-preserved c).After-frame) c.joined-h.ensures in
    (m.0, omega (arith, m.1, l.invariant.1))
