use mathlib.Core.Path.{◌≡◌, ap, ◌∙◌}
use Prim.Native.Nat.{◌+◌, ◌-◌}
use native.Mathlib.Omega.{arith}
use lib.ListN.{length}
use Rattle.bus_log.specs.declared.Line.{Line}
use Rattle.log_load.specs.Log.{lines}
use Rattle.log_load.specs.Theory.Best.{tried-more, starts-rise, ends-rise, best-is}
use Rattle.log_load.proofs.stretch.find.Goals as goal

pub loop-i-init : goal.loop-i-init
loop-i-init c = let f = c.first_window-starts.ensures in (f _, f _)

pub loop-i-preserved : goal.loop-i-preserved
loop-i-preserved c =
    let l = c.loop-i in
    let k = c.line-l.ensures in (
      tried-more _ _ c.args.log.now.ordered _ l.i _ _ _ l.invariant.0 (starts-rise _ c.args.w c.args.log.now.ordered l.i) (ap (λ (m : Line). m.start) k.value) c.move_to-starts.ensures,
      tried-more _ _ c.args.log.now.ordered _ l.i _ _ _ l.invariant.1 (ends-rise _ c.args.w c.args.log.now.ordered l.i) (c.saturating_sub.ensures ∙ ap (λ (m : Line). m.start + m.length - c.args.w) k.value) c.move_to-ends.ensures,
    )

pub returns : goal.returns
returns c =
    let l = c.loop-i in
    let all : l.i ≡ length (lines c.args.log.now) = omega (arith, l.auto.i-end, c.loop-i-test.false, c.count-n.ensures.value) in
    best-is _ _ c.args.log.now.ordered c.requires.0 c.requires.1 _ _ (rw all at l.invariant.0) (rw all at l.invariant.1) _ c.better.ensures
