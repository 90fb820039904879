-- A refusal of the files is encoded; by files that were read the last frame is judged and shown.
use mathlib.Core.Path.{sym, subst, ◌∙◌}
use Rattle.arith.specs.Laws.Signed.{kept}
use Rattle.worst_case.specs.declared.LastFrame.{LastFrame}
use Rattle.worst_case.specs.Answer.{worst_of}
use Rattle.certifier.specs.WorstEntry.{worst_file, worst_read}
use Rattle.certifier.specs.Steps.{Encodable}
use Rattle.certifier.proofs.Laws.Small.{judged-encodable}
use Rattle.certifier.proofs.Laws.WorstEntry.{last-refused}
use Rattle.certifier.proofs.worst_entry.certifier_worst.Goals as goal

pub show_last-requires : goal.show_last-requires
unfolding worst_of
show_last-requires c = subst (λ (l : LastFrame). Encodable l.judged) (sym c.worst.ensures.value) (judged-encodable _ _ _)

pub returns-in-Err : goal.returns-in-Err
unfolding worst_file worst_read
returns-in-Err c =
    let (a, b) = last-refused (worst_file c.args.lengths.now c.args.table.now) c.from.result c.args.shown.now (rw (c.in-Err.ensures, c.from.ensures)) in
    record { value = kept _ c.encode_refusal.type_inv ∙ c.encode_refusal.ensures ∙ a; shown_after = b }

pub returns-in-Ok : goal.returns-in-Ok
unfolding worst_file worst_read
returns-in-Ok c =
    let (passed, lengths, rows) = c.in-Ok.ensures in
    let e = c.show_last.ensures in
    record {
      value = rw (passed, ← lengths, ← rows, ← c.worst.ensures.value) (kept _ c.show_last.type_inv ∙ e.value);
      shown_after = rw (passed, ← lengths, ← rows, ← c.worst.ensures.value) e.shown_after;
    }
