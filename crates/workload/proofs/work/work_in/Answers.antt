use Rattle.std.proofs.Common.{ℕ, ap, ◌∙◌}
use Rattle.bus_model.specs.declared.Frame.{Frame}
use Rattle.bus_model.specs.Bounds.{demand, work_at}
use Rattle.workload.proofs.Laws.Fine.{sum-next, sum-all}
use Rattle.workload.proofs.work.work_in.Goals as goal

pub loop-i-preserved : goal.loop-i-preserved
loop-i-preserved c =
    let a = c.args in
    let f : Frame → ℕ = λ g. demand g a.a a.n in
    sum-next c.loop-i.invariant c.loop-i-test.true (c.frame_demand-sum.ensures.value ∙ ap f c.listed_row-r.ensures.frame_value) c.frame_demand-sum.ensures.small

pub returns : goal.returns
unfolding work_at
returns c = let answer = sum-all c.loop-i.invariant c.loop-i-test.false c.requires.fine_part.few in record { value = answer.0; small = answer.1 }
