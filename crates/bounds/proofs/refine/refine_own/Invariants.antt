-- The loop has the greatest response over the alignments of the own group that are visited, and the one at which the target is released.
use Prim.Native.Nat.{◌-◌}
use lib.ListN.{set}
use Rattle.bus_model.specs.declared.Choice.TheVariants.{Fixed}
use Rattle.bus_model.specs.Theory.OpenGroups.{fixing_more}
use Rattle.bus_model.specs.Theory.Turns.{turn}
use Rattle.greatest_work.specs.Setting.{frames, Remembers}
use Rattle.bounds.specs.Laws.Search.{BestFrom}
use Rattle.bounds.proofs.refine.refine_own.Given as goal

abbrev pub invariant-loop-most : goal.invariant-loop-most
invariant-loop-most l =
    BestFrom (frames l.setting) l.setting.target.frame l.setting.target.frame.group (λ b. fixing_more l.setting.target.faults (frames l.setting) l.setting.target.frame (l.left - 1) (set l.choices (l.setting.target.frame.group - 1) (Fixed b))) l.best l.most l.a l.after × Remembers l.setting l.memory

abbrev pub decreases-loop-most : goal.decreases-loop-most
decreases-loop-most l = turn (frames l.setting) l.setting.target.frame l.setting.target.frame.group - l.after
