use mathlib.Core.Path.{◌∙◌}
use native.Mathlib.Nat.{sub-zero}
use Rattle.arith.specs.Laws.Least.{least-end}
use Rattle.bus_log.specs.Log.{found_or, row_of}
use Rattle.bus_log.proofs.Theory.Search.{search-stop, search-go}
use Rattle.bus_log.proofs.follow.row_of.Goals as goal

pub loop-i-init : goal.loop-i-init
loop-i-init c = rw sub-zero

pub returns-then-is_named : goal.returns-then-is_named
unfolding row_of found_or
returns-then-is_named c = rw (← c.loop-i.invariant, search-stop _ _ _ _ c.loop-i-test.true c.is_named.ensures c.if-is_named.true)

pub loop-i-preserved : goal.loop-i-preserved
loop-i-preserved c = search-go _ _ _ _ c.loop-i-test.true c.is_named.ensures c.if-is_named.false ∙ c.loop-i.invariant

pub returns : goal.returns
unfolding row_of found_or
returns c = rw (← c.loop-i.invariant, least-end _ _ _ c.loop-i-test.false)
