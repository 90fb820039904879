-- The bound or its refusal is encoded as certifier does.
use Prim.Native.Nat.{ℕ}
use mathlib.Core.Path.{ap, ◌∙◌}
use mathlib.Core.List.{List}
use Rattle.arith.specs.Laws.Signed.{kept}
use Rattle.row_judgement.specs.Judge.{bound_row}
use Rattle.certifier.specs.Encode.{encode_bounded}
use Rattle.test_entries.proofs.test_precise_bound.Goals as goal

pub returns : goal.returns
returns c =
    let a = c.args in
    kept _ c.encode_bounded.type_inv ∙ c.encode_bounded.ensures ∙ ap encode_bounded c.precise_bound.ensures.value
    ∙ ap (λ (ls : List (List ℕ)). encode_bounded (bound_row ls a.rows.now a.row)) c.array.ensures
