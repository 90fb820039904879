-- The array of the lengths' numbers is handed on.
use Prim.Native.Nat.{ℕ}
use mathlib.Core.Path.{ap, ◌∙◌}
use mathlib.Core.List.{List}
use Rattle.arith.specs.Laws.Signed.{kept}
use Rattle.row_judgement.specs.Judge.{judge_row}
use Rattle.certifier.specs.Encode.{encode_judged}
use Rattle.test_entries.proofs.test_judge.Goals as goal

pub returns : goal.returns
returns c =
    let a = c.args in
    kept _ c.encode_judgement_of.type_inv ∙ c.encode_judgement_of.ensures
    ∙ ap (λ (ls : List (List ℕ)). encode_judged (judge_row ls a.rows.now a.row)) c.array.ensures
