-- `load_sheet::loads::node_load` meets its contract: the divisor is the hyperperiod of the node's group, which is not 0.
use Prim.Native.Nat.{◌≤◌}
use mathlib.Core.Path.{◌≡◌, sym, ◌∙◌}
use native.Mathlib.Omega.{arith}
use Rattle.bus_model.specs.Pattern.{of_group, hyperperiod}
use Rattle.table_checks.specs.Table.{frames}
use Rattle.table_checks.proofs.Laws.Accepted.{hyper-same}
use Rattle.load_sheet.specs.Sheet.{group_of, node_load}
use Rattle.load_sheet.proofs.Laws.Loads.{group-limits, divisor-limits, load_is}
use Rattle.load_sheet.proofs.loads.node_load.Goals as goal
use Rattle.load_sheet.proofs.loads.node_load.Goals.{After-hyperperiod-divisor}

-- the hyperperiod is the same by any lengths
divisor : (c : After-hyperperiod-divisor) → let a = c.args in c.hyperperiod-divisor.result ≡ hyperperiod (of_group (frames a.table.now) (group_of a.table.now.rows.now a.node))
divisor c =
    let a = c.args in
    rw (← c.group_of-group.ensures) (c.hyperperiod-divisor.ensures ∙ sym (hyper-same a.table.now.lengths a.table.now.rows.now _))

limits : (c : After-hyperperiod-divisor) → (1 ≤ c.hyperperiod-divisor.result) × (c.hyperperiod-divisor.result ≤ 1000000)
limits c =
    rw (divisor c) (divisor-limits _ c.args.table.now.accepted.1 _ c.args.table.now.accepted.0 _ c.requires)

pub hyperperiod-divisor-requires : goal.hyperperiod-divisor-requires
hyperperiod-divisor-requires c =
    record { accepted = c.args.table.now.accepted.1; le_group = rw c.group_of-group.ensures (group-limits _ c.args.table.now.accepted.1 _ c.requires) }

pub work-dividend-requires : goal.work-dividend-requires
work-dividend-requires c = (limits c).1

pub nonzero_div-result : goal.nonzero_div-result
nonzero_div-result c = omega (arith, (limits (goal.at.nonzero_div-result c).After-hyperperiod-divisor).0)

pub nonzero_rem-result : goal.nonzero_rem-result
nonzero_rem-result c = omega (arith, (limits (goal.at.nonzero_rem-result c).After-hyperperiod-divisor).0)

pub returns : goal.returns
unfolding node_load
returns c = load_is _ _ _ _ (divisor (goal.at.returns c).After-hyperperiod-divisor) c.work-dividend.ensures.value
