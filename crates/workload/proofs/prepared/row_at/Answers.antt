-- The numbers of the row, from the table and from the area.
use Rattle.std.proofs.Common.{◌<◌, sym, ◌∙◌, arith}
use Rattle.workload.proofs.Laws.Prepared.{length-table, table-row, table_none}
use Rattle.workload.proofs.prepared.row_at.Goals as goal
use Rattle.workload.proofs.prepared.row_at.Goals.{Else-rows-i}

pub returns-then-rows-i : goal.returns-then-rows-i
returns-then-rows-i c = sym (table_none _ _ _ c.if-rows-i.true)

-- the row is one of 64
few : (c : Else-rows-i) → c.args.i < 64
few c = omega (arith, c.if-rows-i.false, c.requires.table.few, length-table c.args.rows.now c.args.prepared.now)

pub bounds-prepared-at : goal.bounds-prepared-at
bounds-prepared-at c = omega (arith, few (goal.at.bounds-prepared-at c).Else-rows-i, c.requires.size)

pub bounds-prepared-at-2 : goal.bounds-prepared-at-2
bounds-prepared-at-2 c = omega (arith, few (goal.at.bounds-prepared-at-2 c).Else-rows-i, c.requires.size)

pub bounds-prepared-at-3 : goal.bounds-prepared-at-3
bounds-prepared-at-3 c = omega (arith, few (goal.at.bounds-prepared-at-3 c).Else-rows-i, c.requires.size)

pub returns : goal.returns
returns c = sym (table-row c.args.rows.now c.args.prepared.now c.args.i c.if-rows-i.false ∙ rw c.from.ensures)
