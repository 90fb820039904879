use mathlib.Core.Path.{◌≡◌, ap, ◌∙◌}
use Prim.Native.Nat.{ℕ, ◌+◌, ◌-◌, ◌<◌}
use native.Mathlib.Omega.{arith}
use lib.ListN.{length}
use Rattle.bus_log.specs.declared.Line.{Line}
use Rattle.log_load.specs.Log.{lines}
use Rattle.log_load.specs.Theory.Walk.{walk-done, walk-within, walk_more, walk-stop, walk_end}
use Rattle.log_load.proofs.stretch.walk_to.Goals as goal

pub overflow_add-busy : goal.overflow_add-busy
overflow_add-busy c =
    let done = walk-done _ c.args.log.now.ordered c.loop-line.invariant in
    omega (arith, done, c.requires.t_bound, c.saturating_sub.ensures)

pub returns-then-t-l : goal.returns-then-t-l
returns-then-t-l c =
    let l = c.loop-line in
    let line = c.line-l.ensures.value in
    let less : l.line < length (lines c.args.log.now) = omega (arith, c.loop-line-test.true, c.count-n.ensures.value) in
    let ends = rw line at c.if-t-l.true in
    record { walked = l.invariant; busy_value = ap (λ (k : ℕ). l.done + k) (c.saturating_sub.ensures ∙ ap (λ (k : Line). c.args.t - k.start) line) ∙ walk-stop _ c.args.log.now.ordered l.invariant less ends }

pub overflow_add-done : goal.overflow_add-done
overflow_add-done c =
    let done = walk-done _ c.args.log.now.ordered c.loop-line.invariant in
    omega (arith, done, c.requires.t_bound, c.line-l.ensures.small.length)

pub loop-line-preserved : goal.loop-line-preserved
loop-line-preserved c =
    let l = c.loop-line in
    let line = c.line-l.ensures.value in
    let less : l.line < length (lines c.args.log.now) = omega (arith, c.loop-line-test.true, c.count-n.ensures.value) in
    let ends = rw line at c.if-t-l.false in
    rw line (walk_more _ c.args.log.now.ordered l.invariant less ends)

pub returns : goal.returns
returns c =
    let l = c.loop-line in
    let within = walk-within _ c.args.log.now.ordered l.invariant in
    let last : l.line ≡ c.count-n.result = omega (arith, within, c.loop-line-test.false, c.count-n.ensures.value) in
    record { walked = rw last at l.invariant; busy_value = walk_end _ c.args.log.now.ordered l.invariant (omega (arith, c.loop-line-test.false, c.count-n.ensures.value)) }
