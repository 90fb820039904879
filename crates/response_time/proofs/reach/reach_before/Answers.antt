-- Releases before the limit.
use Rattle.workload.proofs.Laws.Fine.{in-table-fine}
use Rattle.greatest_work.specs.Setting.{listed}
use Rattle.response_time.specs.Laws.Within.{reach-all}
use Rattle.response_time.proofs.reach.reach_before.Goals as goal

pub instances_before-requires : goal.instances_before-requires
instances_before-requires c = (in-table-fine _ c.args.setting.now.posed.prepared.filled.table (listed c.args.setting.now), c.requires.small)

pub returns : goal.returns
returns c = λ best. reach-all c.args.setting.now.posed.prepared.filled.table (listed c.args.setting.now) c.args.choices c.requires c.instances_before.ensures best
