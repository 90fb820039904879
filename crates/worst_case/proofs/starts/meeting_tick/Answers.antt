use mathlib.Core.Path.{◌≡◌}
use native.Mathlib.Omega.{arith}
use borrow.Author.Rules.{rules}
use lib.ListN.{length}
use Rattle.worst_case.specs.Laws.Starts.{most-none, most-next, most-all}
use Rattle.worst_case.proofs.starts.meeting_tick.Goals as goal
use Rattle.worst_case.proofs.starts.meeting_tick.Goals.{Start}

-- the alignments are as many as the groups
long : (s : Start) → length s.args.alignments ≡ 16
long s = search rules

pub loop-i-init : goal.loop-i-init
loop-i-init c = most-none _

pub loop-i-preserved : goal.loop-i-preserved
loop-i-preserved c = most-next c.args.alignments c.loop-i.i c.loop-i.most (omega (arith, long (goal.at.loop-i-preserved c).Start, c.loop-i-test.true)) (search rules) c.loop-i.invariant

pub returns : goal.returns
returns c = most-all c.args.alignments c.loop-i.i c.loop-i.most (omega (arith, long (goal.at.returns c).Start, c.loop-i-test.false)) c.loop-i.invariant
