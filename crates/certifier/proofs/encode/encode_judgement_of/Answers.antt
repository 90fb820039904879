-- Every judgement of a row can be encoded.
use mathlib.Core.Path.{sym, subst}
use Rattle.certifier.specs.Steps.{Encodable}
use Rattle.certifier.proofs.Laws.Small.{judged-encodable}
use Rattle.certifier.proofs.encode.encode_judgement_of.Goals as goal

pub encode_judged-requires : goal.encode_judged-requires
encode_judged-requires c = subst Encodable (sym c.judge.ensures.value) (judged-encodable _ _ _)
