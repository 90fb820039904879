-- The listing of an accepted table is short enough for its length to be answered.
use mathlib.Core.Path.{sym, subst}
use Rattle.certifier.specs.Steps.{Countable}
use Rattle.certifier.proofs.Laws.Answers.{faults-countable}
use Rattle.certifier.proofs.faults_entry.certifier_list_faults.Goals as goal

pub encode_listed-requires : goal.encode_listed-requires
encode_listed-requires c =
    let a = c.args in
    subst Countable (sym c.list_faults.ensures.value) (faults-countable a.lengths.now a.table.now a.gap a.out.now)
