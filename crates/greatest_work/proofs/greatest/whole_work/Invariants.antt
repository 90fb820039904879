-- The invariant has the sum over the groups done.
use Prim.Native.Nat.{◌+◌, ◌*◌, ◌≤◌}
use Rattle.arith.specs.Lists.{sum}
use Rattle.arith.specs.Laws.Walks.{CountUp}
use Rattle.bus_model.specs.Pattern.{of_group}
use Rattle.bus_model.specs.Bounds.{work, ahead, alignments, choice_of, group_work}
use Rattle.greatest_work.specs.Setting.{frames, Remembers}
use Rattle.greatest_work.proofs.greatest.whole_work.Given as goal

abbrev pub invariant-loop-j : goal.invariant-loop-j
invariant-loop-j l =
    CountUp (sum (λ i. group_work (of_group (ahead (frames l.setting) l.setting.target.frame) i) (alignments (frames l.setting) l.setting.target.frame i) (choice_of l.fn.choices i) l.n)) ◌+◌ 17 (work (frames l.setting) l.setting.target.frame (ahead (frames l.setting) l.setting.target.frame) l.fn.choices l.n) l.sum (l.j + 1)
    × (l.sum ≤ 25625625600 * l.j)
    × Remembers l.setting l.memory
