-- Nothing is remembered, and the frame is that of the row.
use mathlib.Core.Path.{ap, ◌∙◌}
use mathlib.Core.List.{List}
use Rattle.bus_model.specs.declared.Frame.{Frame}
use Rattle.bus_model.specs.declared.Faults.{Faults}
use Rattle.table_checks.specs.Table.{frames}
use Rattle.bounds.specs.Find.{bound_for}
use Rattle.row_judgement.specs.Laws.Explain.{remembers-new}
use Rattle.row_judgement.proofs.decide.decide.Goals as goal

pub find-requires : goal.find-requires
find-requires c = remembers-new c.pose_row-setting.result

pub returns : goal.returns
returns c =
    let row = c.pose_row-setting in
    let target = row.result.target in
    c.find.ensures.value
    ∙ ap (λ (fs : List Frame). bound_for target.faults fs target.frame c.args.claim) row.ensures.frames_value
    ∙ ap (λ (faults : Faults). bound_for faults (frames c.args.table.now) target.frame c.args.claim) row.ensures.target.1
    ∙ ap (λ (k : Frame). bound_for c.args.faults (frames c.args.table.now) k c.args.claim) row.ensures.target.0
