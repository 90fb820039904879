-- A refusal of the files is converted; with files that were read the row is judged.
use mathlib.Core.Path.{◌∙◌}
use Rattle.std.proofs.lemmas.Result.{err_from_is_err_and}
use Rattle.certifier.specs.FaultsEntry.{judge_faults_file, judge_faults_read}
use Rattle.certifier.proofs.faults_entry.judge_faults_file.Goals as goal

pub returns-in_err-table : goal.returns-in_err-table
unfolding judge_faults_file judge_faults_read
returns-in_err-table c =
    let p = err_from_is_err_and c.from_residual.result c.from_residual.ensures.1 in rw (p.1, p.2, c.in_err-table.ensures)

pub returns : goal.returns
unfolding judge_faults_file judge_faults_read
returns c = let (passed, lengths, rows) = c.in_ok-table.ensures in c.judge_faults_accepted.ensures ∙ rw (passed, lengths, rows)
