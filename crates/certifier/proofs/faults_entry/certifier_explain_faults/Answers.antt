-- A refusal of the files is encoded; with files that were read the row is explained.
use mathlib.Core.Path.{sym, subst, ◌∙◌}
use Rattle.arith.specs.Laws.Signed.{kept}
use Rattle.certifier.specs.FaultsEntry.{explain_faults_file, explain_faults_read}
use Rattle.row_judgement.specs.declared.Explained.{Explained}
use Rattle.row_judgement.specs.Explain.{explain_faults}
use Rattle.certifier.specs.Steps.{Encodable}
use Rattle.certifier.proofs.Laws.Small.{faults-encodable}
use Rattle.certifier.proofs.Laws.ExplainEntry.{shown-refused}
use Rattle.certifier.proofs.faults_entry.certifier_explain_faults.Goals as goal

pub show-requires : goal.show-requires
unfolding explain_faults
show-requires c = subst (λ (e : Explained). Encodable e.judged) (sym c.explain_faults.ensures.value) (faults-encodable _ _ _ _)

pub returns-in-Err : goal.returns-in-Err
unfolding explain_faults_file explain_faults_read
returns-in-Err c =
    let (a, b) = shown-refused (explain_faults_file c.args.lengths.now c.args.table.now c.args.row c.args.gap) c.from.result c.args.shown.now
    (rw (c.in-Err.ensures, c.from.ensures)) in
    record { value = kept _ c.encode_refusal.type_inv ∙ c.encode_refusal.ensures ∙ a; shown_after = b }

pub returns-in-Ok : goal.returns-in-Ok
unfolding explain_faults_file explain_faults_read
returns-in-Ok c =
    let (passed, lengths, rows) = c.in-Ok.ensures in
    let e = c.show.ensures in
    record {
      value = rw (passed, ← lengths, ← rows, ← c.explain_faults.ensures.value) (kept _ c.show.type_inv ∙ e.value);
      shown_after = rw (passed, ← lengths, ← rows, ← c.explain_faults.ensures.value) e.shown_after;
    }
