use mathlib.Core.Path.{sym, ◌∙◌}
use native.Mathlib.Nat.{sub-zero}
use Rattle.arith.specs.Laws.Least.{least-end}
use Rattle.bus_log.proofs.Theory.Search.{search-stop, search-go}
use Rattle.log_check.specs.Check.{first_broken}
use Rattle.log_check.proofs.text.first_broken.Goals as goal

pub loop-i-init : goal.loop-i-init
unfolding first_broken
loop-i-init c = rw sub-zero

pub returns-then-is_broken : goal.returns-then-is_broken
returns-then-is_broken c = sym (search-stop _ _ _ _ c.loop-i-test.true c.is_broken.ensures c.if-is_broken.true) ∙ c.loop-i.invariant

pub loop-i-preserved : goal.loop-i-preserved
loop-i-preserved c = search-go _ _ _ _ c.loop-i-test.true c.is_broken.ensures c.if-is_broken.false ∙ c.loop-i.invariant

pub returns : goal.returns
returns c = sym (least-end _ _ _ c.loop-i-test.false) ∙ c.loop-i.invariant
