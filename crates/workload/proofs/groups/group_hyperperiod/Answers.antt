use Rattle.std.proofs.Common.{ℕ, ◌≡◌, ◌-◌, ◌<◌, ◌≤◌, eqb, List, length, subst, arith, rules, eq-eqb, ne_eqb}
use Rattle.arith.specs.Multiples.{lcm}
use Rattle.arith.specs.Laws.Walks.{Down}
use Rattle.bus_model.specs.declared.Frame.{Frame}
use Rattle.bus_model.specs.Frame.{row}
use Rattle.bus_model.specs.Pattern.{of_group}
use Rattle.bus_model.specs.Theory.Hyperperiod.{hyper_of}
use Rattle.bus_model.proofs.Theory.Hyperperiod.{join_of, common-none, hyper-more, hyper-le}
use Rattle.table_checks.specs.Frames.{frames_of}
use Rattle.table_checks.proofs.Laws.Accepted.{length-frames}
use Rattle.workload.specs.Prepared.{FineTable}
use Rattle.workload.proofs.groups.group_hyperperiod.Goals as goal

pub loop-i-init : goal.loop-i-init
unfolding of_group
loop-i-init c = (subst (Down (hyper_of _) _ 1) (length-frames _ _) (common-none _ (λ (g : Frame). eqb g.group c.args.group)), search rules)

periods : {fs : List Frame} → FineTable fs → (i : ℕ) → i < length fs → 1 ≤ (row fs i).period
periods table i l = (table.fine i l).period-low

pub joined-h-requires : goal.joined-h-requires
joined-h-requires c =
    let l = c.loop-i in
    let g = c.frame-g.result in
    let table = c.requires.fine_table in let within = c.requires.le_group in
    let inside : l.i - 1 < length (frames_of c.args.lengths c.args.rows.now) = omega (arith, l.invariant.0.inside, c.loop-i-test.true) in
    let counts : lcm g.period l.h ≡ join_of c.args.group g l.h = rw (eq-eqb g.group c.args.group c.if-g-group.true) in
    let m = hyper-more _ c.args.group (periods table) l.invariant.0 c.loop-i-test.true c.frame-g.ensures counts in
    (l.invariant.1, rw c.frame-g.ensures (table.fine (l.i - 1) inside).period-high, omega (arith, hyper-le _ c.args.group (periods table) _ _ m.0, table.hyper c.args.group within.0 within.1))

pub loop-i-preserved-then-g-group : goal.loop-i-preserved-then-g-group
loop-i-preserved-then-g-group c =
    let l = c.loop-i in
    let g = c.frame-g.result in
    let counts : c.joined-h.result ≡ join_of c.args.group g l.h = rw (eq-eqb g.group c.args.group c.if-g-group.true) c.joined-h.ensures in
    let m = hyper-more _ c.args.group (periods c.requires.fine_table) l.invariant.0 c.loop-i-test.true c.frame-g.ensures counts in
    (m.0, omega (arith, m.1, l.invariant.1))

pub loop-i-preserved : goal.loop-i-preserved
loop-i-preserved c =
    let l = c.loop-i in
    let g = c.frame-g.result in
    let passed : l.h ≡ join_of c.args.group g l.h = rw (ne_eqb g.group c.args.group c.if-g-group.false) in
    let m = hyper-more _ c.args.group (periods c.requires.fine_table) l.invariant.0 c.loop-i-test.true c.frame-g.ensures passed in
    (m.0, l.invariant.1)
