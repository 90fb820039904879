use Prim.Native.Nat.{◌*◌}
use mathlib.Core.Path.{refl, sym, ◌∙◌}
use borrow.Author.Rules.{rules}
use lib.Seq.{take_at}
use Rattle.arith.specs.Laws.Overwriting.{over-element, over-all}
use Rattle.table_checks.specs.Columns.{columns}
use Rattle.frame_table.specs.Laws.Layout.{length_fields, field-at}
use Rattle.frame_table.proofs.text.read_fields.Goals as goal

pub loop-k-init : goal.loop-k-init
loop-k-init c = (refl, refl)

pub loop-k-preserved : goal.loop-k-preserved
loop-k-preserved c =
    let below = c.loop-k-test.true in
    (over-element _ _ _ _ (length_fields _ _ 0) _ _ c.loop-k.invariant.0 below (search rules) (c.field.ensures ∙ sym (field-at _ _ _ below)), search rules)

pub returns : goal.returns
returns c =
    let size = length_fields _ (columns * c.args.lines) 0 in
    let all = over-all _ _ _ _ size _ c.loop-k.invariant.0 (search rules) c.loop-k-test.false in
    rw all (take_at _ _ _ size)
