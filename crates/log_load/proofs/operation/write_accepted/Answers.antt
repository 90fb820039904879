-- `log_load::operation::write_accepted` meets its contract: the sheet is written where the width serves and it has room, and else the area is left.
use mathlib.Core.Path.{refl}
use native.Mathlib.Omega.{arith}
use Rattle.table_checks.proofs.Laws.Accepted.{accepted-size}
use Rattle.log_load.specs.Theory.Sheet.{rest-long}
use Rattle.log_load.specs.Theory.Answer.{width-none, width-beyond, area-short, sheet-written}
use Rattle.log_load.proofs.operation.write_accepted.Goals as goal
use Rattle.log_load.proofs.operation.write_accepted.Goals.{then-width-eq0-via-then-width-eq0, then-width-eq0-via-else-width-eq0+then-last_end-width}

pub returns-then-width-eq0-clause-value : goal.returns-then-width-eq0-clause-value
returns-then-width-eq0-clause-value c =
    elim c.then-width-eq0.branch [
      | then-width-eq0-via-then-width-eq0 w ↦ (width-none _ _ _ c.args.out.now _ c.refuse.ensures w.if-width-eq0.true).0
      | then-width-eq0-via-else-width-eq0+then-last_end-width w ↦
          (width-beyond _ _ _ c.args.out.now _ c.refuse.ensures w.if-width-eq0.false (omega (arith, w.if-last_end-width.true, w.last_end.ensures.value))).0
    ]

pub returns-then-out-size : goal.returns-then-out-size
returns-then-out-size c = let answer = area-short _ _ _ _ c.if-width-eq0.false (omega (arith, c.if-last_end-width.false, c.last_end.ensures.value)) _ c.refuse-then-out-size.ensures c.if-out-size.true in record { value = answer.0; out_after = answer.1 }

pub write_rows-requires : goal.write_rows-requires
write_rows-requires c =
    (refl, omega (arith, (accepted-size _ c.requires).most), rest-long c.args.out.now _ _ _ _ _ c.write_first.ensures refl c.if-out-size.false)

pub returns : goal.returns
returns c =
    let answer = sheet-written _ _ _ _ c.if-width-eq0.false (omega (arith, c.if-last_end-width.false, c.last_end.ensures.value)) _ _ _ _ _ _ refl refl c.if-out-size.false c.write_first.ensures c.find-best.ensures c.write_rows.ensures in record { value = answer.0; out_after = answer.1 }
