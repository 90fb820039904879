-- The loop has the greatest response over the alignments of the next group that are visited, each the start of a search with one group more fixed;
-- what is left out has no response above the greatest.
use Rattle.std.proofs.Common.{◌-◌, ◌≤◌, set}
use Rattle.bus_model.specs.declared.Choice.TheVariants.{Fixed}
use Rattle.bus_model.specs.Theory.OpenGroups.{fixing_more}
use Rattle.bus_model.specs.Theory.Turns.{turn}
use Rattle.greatest_work.specs.Setting.{frames, Remembers}
use Rattle.response_time.specs.Load.{Reaches}
use Rattle.bounds.specs.Laws.Search.{Best}
use Rattle.bounds.proofs.refine.+refine.Given as goal

abbrev pub decreases-refine : goal.decreases-refine
decreases-refine l = l.left

abbrev pub invariant-alignments : goal.invariant-alignments
invariant-alignments l =
    Best (frames l.setting) l.setting.target.frame l.group (λ b. fixing_more l.setting.target.faults (frames l.setting) l.setting.target.frame (l.left - 1) (set l.choices (l.group - 1) (Fixed b))) l.best l.most l.a × (l.best ≤ l.most)
    × Reaches l.setting.target.faults (frames l.setting) l.setting.target.frame l.choices l.most l.rest × Remembers l.setting l.memory

abbrev pub decreases-alignments : goal.decreases-alignments
decreases-alignments l = turn (frames l.setting) l.setting.target.frame l.group - l.a
