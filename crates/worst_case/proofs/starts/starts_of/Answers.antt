use mathlib.Core.Path.{◌≡◌, refl}
use native.Mathlib.Omega.{arith}
use borrow.Author.Rules.{rules}
use lib.ListN.{length}
use Rattle.bus_model.proofs.Theory.Reached.{alignment-before}
use Rattle.worst_case.specs.Laws.Starts.{starts_none, starts-next, starts-all}
use Rattle.worst_case.proofs.starts.starts_of.Goals as goal
use Rattle.worst_case.proofs.starts.starts_of.Goals.{Start}

-- the alignments are as many as the groups
long : (s : Start) → length s.args.alignments ≡ 16
long s = search rules

pub loop-i-init : goal.loop-i-init
loop-i-init c = starts_none c.args.alignments

pub overflow_sub-starts : goal.overflow_sub-starts
overflow_sub-starts c = omega (arith, c.meeting_tick-meeting.ensures, alignment-before c.args.alignments c.loop-i.i (omega (arith, long (goal.at.overflow_sub-starts c).Start, c.loop-i-test.true)))

pub loop-i-preserved : goal.loop-i-preserved
loop-i-preserved c = starts-next c.args.alignments (long (goal.at.loop-i-preserved c).Start) c.loop-i.i c.loop-i.invariant c.loop-i-test.true c.meeting_tick-meeting.ensures refl

pub returns : goal.returns
returns c = starts-all c.args.alignments (long (goal.at.returns c).Start) c.loop-i.i c.loop-i.invariant (omega (arith, c.loop-i.auto.i-end)) (omega (arith, c.loop-i-test.false))
