-- `table_checks::number` meets its contract: each cause has its number.
use Rattle.table_checks.specs.Refusal.{number_of}
use Rattle.table_checks.proofs.number.Goals as goal

pub returns-in-FileForm : goal.returns-in-FileForm
unfolding number_of
returns-in-FileForm c = rw c.in-FileForm.is

pub returns-in-TooManyLines : goal.returns-in-TooManyLines
unfolding number_of
returns-in-TooManyLines c = rw c.in-TooManyLines.is

pub returns-in-Notation : goal.returns-in-Notation
unfolding number_of
returns-in-Notation c = rw c.in-Notation.is

pub returns-in-Limit : goal.returns-in-Limit
unfolding number_of
returns-in-Limit c = rw c.in-Limit.is

pub returns-in-Duplicate : goal.returns-in-Duplicate
unfolding number_of
returns-in-Duplicate c = rw c.in-Duplicate.is

pub returns-in-Hyperperiod : goal.returns-in-Hyperperiod
unfolding number_of
returns-in-Hyperperiod c = rw c.in-Hyperperiod.is

pub returns-in-Releases : goal.returns-in-Releases
unfolding number_of
returns-in-Releases c = rw c.in-Releases.is

pub returns-in-OutputArea : goal.returns-in-OutputArea
unfolding number_of
returns-in-OutputArea c = rw c.in-OutputArea.is

pub returns-in-RowsLength : goal.returns-in-RowsLength
unfolding number_of
returns-in-RowsLength c = rw c.in-RowsLength.is

pub returns-in-LengthsFile : goal.returns-in-LengthsFile
unfolding number_of
returns-in-LengthsFile c = rw c.in-LengthsFile.is

pub returns-in-Length : goal.returns-in-Length
unfolding number_of
returns-in-Length c = rw c.in-Length.is

pub returns-in-SecondGroup : goal.returns-in-SecondGroup
unfolding number_of
returns-in-SecondGroup c = rw c.in-SecondGroup.is
