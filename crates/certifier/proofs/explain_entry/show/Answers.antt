-- By the case, and the room.
use mathlib.Core.Path.{◌∙◌}
use Rattle.arith.specs.Laws.Signed.{kept}
use Rattle.certifier.proofs.Laws.ExplainEntry.{shown-none, shown-short, shown-all}
use Rattle.certifier.proofs.explain_entry.show.Goals as goal
use Rattle.certifier.proofs.explain_entry.show.Goals.{in-Some+else-shown-lt-SHOWN, in_default}

pub returns-then-shown-lt-SHOWN : goal.returns-then-shown-lt-SHOWN
returns-then-shown-lt-SHOWN c = let answer = shown-short c.args.explained c.args.shown.now _ c.in-Some.is c.if-shown-lt-SHOWN.true in record { value = answer.0; shown_after = answer.1 }

pub returns : goal.returns
returns c =
    let a = c.args in
    elim c.match-explained.branch [
      | in-Some+else-shown-lt-SHOWN w ↦
          let (value, after) = shown-all a.explained a.shown.now _ w.in-Some.is w.if-shown-lt-SHOWN.false in
          record { value = kept _ c.encode_judged.type_inv ∙ c.encode_judged.ensures ∙ value; shown_after = w.shown-is ∙ w.write_case.ensures ∙ after }
      | in_default w ↦
          let (value, after) = shown-none a.explained a.shown.now w.in_default.not-Some in
          record { value = kept _ c.encode_judged.type_inv ∙ c.encode_judged.ensures ∙ value; shown_after = w.shown-is ∙ after }
    ]
