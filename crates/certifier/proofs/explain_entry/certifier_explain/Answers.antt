-- A refusal of the files is encoded; with files that were read the row is explained.
use mathlib.Core.Path.{sym, subst, ◌∙◌}
use Rattle.arith.specs.Laws.Signed.{kept}
use Rattle.row_judgement.specs.declared.Explained.{Explained}
use Rattle.row_judgement.specs.Explain.{explain_row}
use Rattle.certifier.specs.ExplainEntry.{explain_file, explain_read}
use Rattle.certifier.specs.Steps.{Encodable}
use Rattle.certifier.proofs.Laws.Small.{judged-encodable}
use Rattle.certifier.proofs.Laws.ExplainEntry.{shown-refused}
use Rattle.certifier.proofs.explain_entry.certifier_explain.Goals as goal

pub show-requires : goal.show-requires
unfolding explain_row
show-requires c = subst (λ (e : Explained). Encodable e.judged) (sym c.explain.ensures.value) (judged-encodable _ _ _)

pub returns-in-Err : goal.returns-in-Err
unfolding explain_file explain_read
returns-in-Err c =
    let (a, b) = shown-refused (explain_file c.args.lengths.now c.args.table.now c.args.row) c.from.result c.args.shown.now (rw (c.in-Err.ensures, c.from.ensures)) in
    record { value = kept _ c.encode_refusal.type_inv ∙ c.encode_refusal.ensures ∙ a; shown_after = b }

pub returns-in-Ok : goal.returns-in-Ok
unfolding explain_file explain_read
returns-in-Ok c =
    let (passed, lengths, rows) = c.in-Ok.ensures in
    let e = c.show.ensures in
    record {
      value = rw (passed, ← lengths, ← rows, ← c.explain.ensures.value) (kept _ c.show.type_inv ∙ e.value);
      shown_after = rw (passed, ← lengths, ← rows, ← c.explain.ensures.value) e.shown_after;
    }
