-- `table_checks::checks::group` meets its contract: a bounded hyperperiod within its limit is the hyperperiod.
use mathlib.Core.Path.{◌∙◌}
use Rattle.table_checks.proofs.ChecksLaws.{group-long, group-many, group-passes}
use Rattle.table_checks.proofs.checks.group.Goals as goal

pub returns-then-h-gt-MOST_TICKS : goal.returns-then-h-gt-MOST_TICKS
returns-then-h-gt-MOST_TICKS c = c.fail.ensures ∙ group-long _ _ _ c.bounded_hyperperiod-h.ensures c.if-h-gt-MOST_TICKS.true

pub returns-then-group_releases-gt-MOST_RELEASES : goal.returns-then-group_releases-gt-MOST_RELEASES
returns-then-group_releases-gt-MOST_RELEASES c =
    c.fail-then-group_releases-gt-MOST_RELEASES.ensures ∙ group-many _ _ _ c.bounded_hyperperiod-h.ensures c.if-h-gt-MOST_TICKS.false _ c.group_releases.ensures c.if-group_releases-gt-MOST_RELEASES.true

pub returns-else-group_releases-gt-MOST_RELEASES : goal.returns-else-group_releases-gt-MOST_RELEASES
returns-else-group_releases-gt-MOST_RELEASES c =
    group-passes _ _ _ c.bounded_hyperperiod-h.ensures c.if-h-gt-MOST_TICKS.false _ c.group_releases.ensures c.if-group_releases-gt-MOST_RELEASES.false
