-- `log_load::Log::last_end` meets its contract.
use mathlib.Core.Path.{sym, ap, ◌∙◌}
use Prim.Native.Nat.{◌+◌}
use native.Mathlib.Omega.{arith}
use borrow.Author.Rules.{rules}
use Rattle.bus_log.specs.declared.Line.{Line}
use Rattle.log_load.specs.Theory.Lines.{last_none, last-is}
use Rattle.log_load.proofs.Log.last_end.Goals as goal

pub returns-then-n-eq0 : goal.returns-then-n-eq0
returns-then-n-eq0 c = record { value = last_none _ (sym c.count-n.ensures.value ∙ c.if-n-eq0.true); small = search rules }

pub returns : goal.returns
returns c =
    let z = c.line-l.ensures in
    record { value = ap (λ (l : Line). l.start + l.length) z.value ∙ last-is _ _ (omega (arith, c.if-n-eq0.false, c.count-n.ensures.value)); small = omega (arith, z.small.start, z.small.length) }
