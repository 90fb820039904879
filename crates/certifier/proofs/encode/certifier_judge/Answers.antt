-- Every judgement of a row can be encoded.
use mathlib.Core.Path.{sym, subst}
use Rattle.certifier.specs.Steps.{Encodable}
use Rattle.certifier.proofs.Laws.Small.{file-encodable}
use Rattle.certifier.proofs.encode.certifier_judge.Goals as goal

pub encode_judged-requires : goal.encode_judged-requires
encode_judged-requires c = rw c.judge_file.ensures (file-encodable _ _ _)
