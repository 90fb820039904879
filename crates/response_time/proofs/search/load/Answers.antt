-- The load of the frames, and what the faults cost up to where it is counted.
use Prim.Native.Nat.{ℕ, ◌+◌, ◌*◌}
use mathlib.Core.Path.{ap₂, ◌∙◌}
use Rattle.workload.specs.Faults.{faults_in}
use Rattle.greatest_work.specs.Setting.{frames}
use Rattle.response_time.specs.Laws.Searches.{fault-cost, load-parts}
use Rattle.response_time.proofs.search.load.Goals as goal

pub returns : goal.returns
returns c =
    let a = c.args in
    let fs = frames a.setting.now in
    let frames = c.frame_load-frames.ensures in
    let cost = c.fault_cost.ensures.value ∙ ap₂ (λ (m n : ℕ). faults_in a.setting.now.target.faults (a.x + m + n) * a.setting.now.target.cost) c.shift_of.ensures.value c.lead_of.ensures.value in
    record { value = ap₂ ◌+◌ frames.value (cost ∙ fault-cost a.setting.now.target.faults fs a.setting.now.target.frame c.args.setting.now.posed.cost _) ∙ load-parts a.setting.now.target.faults fs a.setting.now.target.frame c.args.setting.now.posed.target.long a.choices a.search a.x; remembered = frames.remembered }
