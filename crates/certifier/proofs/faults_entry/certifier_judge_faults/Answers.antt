-- Every judgement of a row can be encoded.
use mathlib.Core.Path.{sym, subst}
use Rattle.certifier.specs.Steps.{Encodable}
use Rattle.certifier.proofs.Laws.Small.{file-faults-encodable}
use Rattle.certifier.proofs.faults_entry.certifier_judge_faults.Goals as goal

pub encode_judged-requires : goal.encode_judged-requires
encode_judged-requires c = rw c.judge_faults_file.ensures (file-faults-encodable _ _ _ _)
